pub mod OneAnswer
pub mod Skipping
