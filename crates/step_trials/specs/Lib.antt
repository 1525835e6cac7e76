pub mod Equal
pub mod EqualLaws
pub mod Inputs
pub mod Trials
pub mod Tables
