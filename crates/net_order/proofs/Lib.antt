mod Common
mod Last
mod Stages
pub mod Reading
mod Staged
mod Trails
mod Chains
pub mod Along
pub mod Unique
pub mod Totals
mod Left
