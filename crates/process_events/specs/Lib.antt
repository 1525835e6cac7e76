pub mod Events
pub mod Naming
