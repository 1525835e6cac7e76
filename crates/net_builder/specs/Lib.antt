pub mod Building
pub mod Errors
pub mod Refusals
pub mod Written
pub mod Finished
pub mod Stepping
pub mod Tracing
pub mod Rounds
