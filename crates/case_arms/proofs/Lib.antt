mod Common
pub mod Bounds
pub mod Values
