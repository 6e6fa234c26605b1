-- Words put one behind the other, the gathering one request at a time, and that each call has one answer.
mod GatherWays
pub mod One
pub mod ReportLaws
pub mod Named
