pub mod Ranges
pub mod Instances
pub mod Options
