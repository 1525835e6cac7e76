mod Common
pub mod Naming
pub mod Chosen
pub mod Fits
