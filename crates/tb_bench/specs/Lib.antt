pub mod Settings
pub mod Runnable
