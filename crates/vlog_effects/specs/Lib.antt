pub mod Expressions
pub mod Selectors
pub mod Steps
pub mod LeftSides
pub mod Effects
pub mod Latches
pub mod Laws
pub mod Examples
