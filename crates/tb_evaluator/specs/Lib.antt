pub mod Meanings
pub mod Planned
