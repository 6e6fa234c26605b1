-- What each way out of the search and of the unit shows, and that each call has one answer.
pub mod One
mod SearchWays
mod UnitWays
