mod Common
pub mod Inputs
pub mod Newness
pub mod Variables
pub mod Fresh
pub mod Processes
pub mod OneWriter
pub mod Declared
pub mod Finishing
pub mod Registers
