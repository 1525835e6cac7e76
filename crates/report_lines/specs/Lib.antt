pub mod Fits
pub mod Formats
pub mod Grammar
pub mod Lines
