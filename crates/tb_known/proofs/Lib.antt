mod Common
pub mod Nothing
pub mod Expressions
pub mod Faultless
pub mod Processes
pub mod Assigns
pub mod Known
