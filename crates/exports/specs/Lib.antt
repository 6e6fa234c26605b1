-- The answers of the calls as words, cited by the contracts, and that records are read back as they were laid.
pub mod Answers
pub mod WordLaws
