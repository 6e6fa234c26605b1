pub mod Record
pub mod Steps
pub mod Calls
pub mod Fits
