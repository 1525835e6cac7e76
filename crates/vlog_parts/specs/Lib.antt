pub mod Numbered
pub mod Values
pub mod Sorts
pub mod Leaves
pub mod Kinds
