-- The call has one answer.
pub mod One
