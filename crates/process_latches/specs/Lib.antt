pub mod Sound
pub mod Writes
pub mod Marking
pub mod Turning
pub mod Latching
pub mod Mixed
pub mod Initial
pub mod Refused
