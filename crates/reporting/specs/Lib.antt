-- What becomes of a piece where its lines are written.
pub mod Reports
