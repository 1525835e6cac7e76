mod Common
pub mod Places
pub mod Steps
pub mod OneAnswer
