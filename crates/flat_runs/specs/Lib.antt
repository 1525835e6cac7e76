pub mod Meanings
pub mod Designs
pub mod Adding
pub mod Parts
pub mod Writing
pub mod Finishing
pub mod Laws
pub mod Examples
