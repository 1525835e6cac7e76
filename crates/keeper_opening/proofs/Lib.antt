mod Common
pub mod Answered
pub mod Opened
