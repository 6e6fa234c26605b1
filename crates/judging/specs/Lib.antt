-- What stands at the front of the unread bytes, cited by the contracts.
pub mod Means
