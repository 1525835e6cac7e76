mod Common
pub mod Cycles
pub mod Failing
pub mod Listing
pub mod OneEnd
pub mod OneList
pub mod Runnable
pub mod Limiting
