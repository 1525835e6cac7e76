mod Common
mod Tables
mod Counting
pub mod Owners
pub mod Sources
pub mod CellPorts
pub mod Reading
mod Checks
pub mod Settles
mod Solved
