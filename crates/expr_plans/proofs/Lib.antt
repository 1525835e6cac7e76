mod Common
pub mod Indices
pub mod Fusion
pub mod Plans
