mod Common
pub mod Labels
pub mod Matches
