pub mod Events
pub mod Statements
