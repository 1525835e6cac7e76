pub mod Ends
pub mod Reached
pub mod Verdicts
