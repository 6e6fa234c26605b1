pub mod Named
pub mod One
mod PushWays
mod StepWays
mod NextWays
