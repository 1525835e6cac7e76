mod Common
pub mod Zips
pub mod Knowing
pub mod Values
pub mod Targets
pub mod Writings
pub mod Copying
pub mod Arms
pub mod Numbering
