pub mod Settling
pub mod Nodes
pub mod Laws
