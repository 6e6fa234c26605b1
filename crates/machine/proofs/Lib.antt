-- What follows from the definitions of specs/: laws, stated there before and cited by the crates above.
pub mod LoopLaws
pub mod ScanLaws
pub mod AskLaws
pub mod HistoryLaws
pub mod AlwaysLaws
pub mod ExampleLaws
pub mod ExampleFacts
pub mod LentLaws
