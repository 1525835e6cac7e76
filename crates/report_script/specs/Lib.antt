pub mod Blocks
pub mod Checks
pub mod Fits
pub mod Reading
pub mod Running
pub mod Texts
pub mod Values
