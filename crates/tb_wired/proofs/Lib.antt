mod Common
pub mod Sides
pub mod Single
pub mod Placed
pub mod Wiring
