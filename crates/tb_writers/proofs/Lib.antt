mod Common
pub mod Tables
pub mod Parts
pub mod Sums
