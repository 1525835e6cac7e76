mod Common
pub mod Lines
pub mod Sections
pub mod Sizes
pub mod Refusing
