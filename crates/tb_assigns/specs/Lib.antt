pub mod Updates
pub mod Pieces
pub mod Laws
pub mod Checks
