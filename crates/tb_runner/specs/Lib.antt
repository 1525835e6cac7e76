pub mod Simulated
pub mod Jobs
