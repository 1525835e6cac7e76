pub mod Draws
pub mod Values
pub mod Laws
