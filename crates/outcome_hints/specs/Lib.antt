pub mod Changes
pub mod Excerpts
pub mod Filled
pub mod Spots
