pub mod Modules
pub mod Declarations
