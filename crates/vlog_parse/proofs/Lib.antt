mod Common
pub mod Depths
pub mod Readings
pub mod OneAnswer
pub mod Nests
pub mod RuleNests
pub mod RowNests
pub mod ModuleNests
pub mod Parses
mod PartsThere
