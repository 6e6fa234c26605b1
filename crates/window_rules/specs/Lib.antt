-- The window's rules: one accumulator, one unit at all of them, the rings, a step, and what follows from steps.
pub mod Index
pub mod Depth
pub mod Levels
pub mod Rings
pub mod Window
pub mod History
pub mod Always
