mod Common
pub mod Listing
pub mod Judging
pub mod Following
pub mod Runnable
pub mod Fitting
pub mod Passing
pub mod Holding
pub mod Assembling
pub mod Accepting
pub mod Making
pub mod Alike
pub mod Designs
pub mod Readings
pub mod Reasons
