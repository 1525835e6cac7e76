pub mod Draws
pub mod Selection
pub mod Walks
pub mod Laws
