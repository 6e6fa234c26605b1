-- Each answer laid flat, cited by the contracts.
pub mod Flat
