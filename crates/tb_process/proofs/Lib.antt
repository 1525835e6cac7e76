mod Common
pub mod Answered
pub mod Answering
pub mod Beginning
pub mod Keeping
pub mod Following
