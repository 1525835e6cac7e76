mod Common
pub mod Chains
pub mod Runs
pub mod Sorted
