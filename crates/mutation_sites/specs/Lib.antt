pub mod Modes
pub mod Sites
pub mod Counts
pub mod Examples
pub mod Mutants
pub mod Wiring
pub mod SiteTexts
