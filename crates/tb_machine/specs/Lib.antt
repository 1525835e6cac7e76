pub mod Worlds
pub mod Steps
pub mod Nodes
pub mod Known
pub mod Machine
pub mod Phases
pub mod Simulations
pub mod Laws
