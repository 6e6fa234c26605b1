-- Sixteen bytes as a timestamp, cited by the contracts, and what every parse has.
pub mod Timestamp
pub mod Laws
