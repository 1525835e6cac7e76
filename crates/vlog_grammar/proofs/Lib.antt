mod Common
pub mod Passes
pub mod Rows
pub mod Begins
pub mod Expand
pub mod Work
pub mod Stack
pub mod Reach
pub mod Stops
pub mod Unique
pub mod Answer
