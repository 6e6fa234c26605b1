-- Document 01's worked examples as a table, and that each row is right.
pub mod Cases
