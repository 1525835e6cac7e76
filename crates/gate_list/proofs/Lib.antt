mod Common
pub mod Adding
pub mod Laying
pub mod Same
pub mod Values
