-- The words of a record and of the answers, cited by the contracts, and that they are read back as they were laid.
pub mod Flat
pub mod Calls
pub mod FlatLaws
