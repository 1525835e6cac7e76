pub mod Lefts
pub mod Writes
pub mod Writers
pub mod Views
