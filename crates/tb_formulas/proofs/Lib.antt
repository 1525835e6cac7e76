mod Common
pub mod Layers
pub mod Values
pub mod Widening
pub mod Bits
pub mod Making
