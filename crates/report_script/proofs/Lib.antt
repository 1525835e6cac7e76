mod Common
pub mod Fitting
pub mod Lines
pub mod Rooms
pub mod Walking
