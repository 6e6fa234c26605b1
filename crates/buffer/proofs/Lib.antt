-- Stretches of a buffer, and that each call has one answer.
pub mod One
pub mod Ways
