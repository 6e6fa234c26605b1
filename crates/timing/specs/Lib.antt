-- Start timing's steps, its numbers, and a run of units, cited by the contracts.
pub mod Timing
pub mod Numbers
pub mod Units
