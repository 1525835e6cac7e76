mod Common
pub mod Parts
pub mod Drawing
pub mod LastFirst
pub mod Fitting
pub mod Checked
pub mod Checking
pub mod Clips
