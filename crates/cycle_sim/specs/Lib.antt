pub mod Gates
pub mod Kept
pub mod Marks
pub mod Parts
pub mod Places
pub mod Simulated
pub mod Steps
