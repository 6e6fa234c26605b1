-- What follows from the definitions of specs/: laws, stated there before and cited by the crates above.
pub mod Proved
pub mod Named
