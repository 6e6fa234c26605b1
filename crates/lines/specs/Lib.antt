-- The lines as bytes, the gathering of them, and what a report says of a stream.
pub mod Lines
pub mod Gather
pub mod LineLaws
pub mod Report
