mod Common
pub mod Models
pub mod Pushing
pub mod Settling
