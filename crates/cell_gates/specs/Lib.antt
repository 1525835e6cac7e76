pub mod CellRows
pub mod Weights
pub mod Meanings
