pub mod Laws
pub mod Order
pub mod Refusals
pub mod Turns
