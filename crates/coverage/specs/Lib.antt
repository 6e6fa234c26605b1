-- How many bytes are outside units, and what that number means.
pub mod Coverage
