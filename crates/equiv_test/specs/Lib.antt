pub mod Verdicts
pub mod Jobs
pub mod Turns
