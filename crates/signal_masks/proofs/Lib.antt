mod Common
pub mod Bits
pub mod Indexing
pub mod Placing
mod Reading
mod Selects
pub mod Sets
