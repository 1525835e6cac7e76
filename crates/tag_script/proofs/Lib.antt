mod Common
pub mod Below
pub mod Done
pub mod Fitting
pub mod Following
pub mod Lines
pub mod Rooms
pub mod Telling
pub mod Truths
pub mod Valued
pub mod Walking
