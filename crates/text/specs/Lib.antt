-- Lines, words and numbers, cited by the contracts.
pub mod Numbers
pub mod Put
pub mod PutLaws
pub mod Text
