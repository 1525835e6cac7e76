pub mod Folding
pub mod Gates
pub mod Laws
