mod Common
pub mod Parts
pub mod Handed
pub mod Writing
pub mod Starting
pub mod Following
pub mod Marking
pub mod Circling
pub mod Laying
pub mod Ending
