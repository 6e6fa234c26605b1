-- The reader's calls as a history, and demands 1, 2 and 3 of every one.
pub mod Held
pub mod HeldLaws
pub mod PartLaws
pub mod Promises
