-- What the wrapping numbers are, and what holds of every step, reset and run of units.
pub mod Words
mod One
pub mod Fit
pub mod Answers
pub mod Branch
pub mod Cases
