mod Common
pub mod Forms
pub mod Scopes
pub mod Names
pub mod Parts
pub mod Replaced
pub mod Flattened
