-- The sync check over bits, cited by the contracts, and its laws.
pub mod Crc
pub mod Laws
