-- Why each step of the window is its rule, and that each call has one answer.
mod Index
mod RingLaws
mod Turns
mod Whole
pub mod One
