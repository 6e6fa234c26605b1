-- A refused request, and that each call has one answer.
pub mod One
pub mod Ways
pub mod Named
