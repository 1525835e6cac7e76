pub mod Calls
pub mod Causes
pub mod Places
pub mod Words
