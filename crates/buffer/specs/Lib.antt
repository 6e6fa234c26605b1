-- What the calls on a lent buffer come to, and the laws that other crates use.
pub mod Calls
pub mod Laws
