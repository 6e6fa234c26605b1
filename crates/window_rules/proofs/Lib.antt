-- What follows from the rules: what a drain keeps, what holds after any steps and restarts, and that a step drains strictly.
pub mod KeepLaws
pub mod AlwaysLaws
pub mod StrictLaws
pub mod Named
