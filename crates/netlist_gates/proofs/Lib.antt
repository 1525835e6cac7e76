mod Common
pub mod Laying
pub mod Within
pub mod Solving
mod Ahead
mod Ordered
