pub mod Words
pub mod Classes
pub mod Nesting
pub mod Parsing
