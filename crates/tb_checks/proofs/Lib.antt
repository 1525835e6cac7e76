mod Common
pub mod Featured
pub mod Random
pub mod Whole
pub mod Firsts
pub mod Layers
pub mod Arms
pub mod Tasked
pub mod Starts
pub mod Begun
