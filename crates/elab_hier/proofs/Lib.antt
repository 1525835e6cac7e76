mod Common
pub mod Once
pub mod Begun
pub mod Counted
pub mod Netlists
pub mod Sources
pub mod Told
