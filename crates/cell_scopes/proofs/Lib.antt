mod Common
pub mod Counted
pub mod Scoped
