pub mod Lines
pub mod Designs
pub mod Projects
pub mod Summaries
