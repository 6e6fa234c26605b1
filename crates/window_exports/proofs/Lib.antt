-- Each exported call has one answer.
pub mod One
