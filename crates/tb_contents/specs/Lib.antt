pub mod Designs
pub mod Hidden
pub mod Starts
pub mod Nets
