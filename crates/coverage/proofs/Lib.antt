-- What each way out shows, and that each call has one answer.
pub mod One
pub mod CoverageLaws
