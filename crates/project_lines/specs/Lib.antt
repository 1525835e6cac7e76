pub mod Lines
pub mod Words
pub mod Numbers
pub mod Checks
pub mod Sections
pub mod Paths
pub mod Scripts
