-- When one moment has passed another, cited by the contract.
pub mod Kinds
