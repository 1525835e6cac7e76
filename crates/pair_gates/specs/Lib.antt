pub mod Copies
pub mod Differences
pub mod Laws
pub mod Matching
pub mod Refusals
pub mod Weights
