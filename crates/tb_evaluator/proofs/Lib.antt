mod Common
pub mod Served
pub mod Evaluating
pub mod Planning
