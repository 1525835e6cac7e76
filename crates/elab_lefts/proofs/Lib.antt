mod Common
pub mod Scopes
pub mod Found
pub mod Covering
