-- The levels of a depth window: five and four of a rule, the conditions of numbers 1, 12 and 13, the questions, and laws.
pub mod Index
pub mod Levels
pub mod Numbers
pub mod Questions
pub mod IndexLaws
pub mod NumberLaws
