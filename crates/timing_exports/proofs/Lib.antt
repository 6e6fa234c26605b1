-- What each way out of a call shows, and that each call has one answer.
pub mod One
pub mod Ways
