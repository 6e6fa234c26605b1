-- Each call has one answer.
pub mod One
