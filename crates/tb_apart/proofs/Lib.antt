mod Common
pub mod Places
pub mod Told
pub mod Meeting
pub mod Listed
pub mod Apart
pub mod Clean
