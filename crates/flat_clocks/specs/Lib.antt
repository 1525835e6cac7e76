pub mod Clocks
pub mod Reads
pub mod Refusals
pub mod Views
