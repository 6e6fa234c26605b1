-- What a record's words say, and how a record is laid on them.
pub mod Words
pub mod UpToLaws
