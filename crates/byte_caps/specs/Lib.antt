-- What the byte caps are, cited by the contracts.
pub mod Caps
