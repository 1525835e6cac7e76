pub mod Outcomes
pub mod FaultLines
