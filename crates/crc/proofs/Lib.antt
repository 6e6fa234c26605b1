-- Each call of the check has one answer.
pub mod One
