-- Any stepping reader, from a step to whole histories: definitions, each followed by its laws; then the example.
pub mod Step
pub mod Loop
pub mod Scan
pub mod Ask
pub mod History
pub mod Always
pub mod Example
pub mod Lent
