pub mod Naming
pub mod Arms
