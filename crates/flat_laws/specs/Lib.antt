pub mod Sound
pub mod Ports
pub mod Laws
