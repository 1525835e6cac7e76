pub mod Crashes
pub mod Formats
pub mod Asking
pub mod Growing
