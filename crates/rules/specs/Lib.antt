-- The reader's rules in document 01's order, then what they keep.
pub mod Search
pub mod Request
pub mod Units
pub mod States
pub mod Verdicts
