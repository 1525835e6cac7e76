pub mod Made
pub mod Meanings
pub mod NetLits
