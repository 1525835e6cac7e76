mod Common
pub mod Sources
pub mod Endings
pub mod Refused
pub mod Limits
pub mod Items
pub mod OneAnswer
