mod Common
pub mod Counted
pub mod FileLines
pub mod LineCounting
pub mod Lines
pub mod Named
