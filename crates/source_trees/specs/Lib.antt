pub mod Files
pub mod Faults
