pub mod Occurs
pub mod Searches
