-- What follows from the definitions of specs/: laws, stated there before and cited by the crates above.
pub mod FindLaws
pub mod VerdictLaws
pub mod StepLaws
pub mod RulesLaws
pub mod FitLaws
pub mod BoundLaws
pub mod RestLaws
pub mod MeaningLaws
pub mod UnitLaws
pub mod OutcomeLaws
pub mod StampLaws
pub mod CarryLaws
pub mod HandedLaws
pub mod CompleteLaws
