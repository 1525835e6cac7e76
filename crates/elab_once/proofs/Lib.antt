mod Common
pub mod Sides
pub mod Writing
pub mod Steps
pub mod Processes
pub mod Refusing
pub mod Meaning
pub mod Building
pub mod Stopping
pub mod Built
