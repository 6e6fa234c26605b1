-- Why the conditions and the questions are the definitions, and that each call has one answer.
mod Conditions
pub mod Questions
pub mod One
