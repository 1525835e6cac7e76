pub mod Fitting
pub mod OneAnswer
