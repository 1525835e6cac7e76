mod Common
pub mod CellLemmas
pub mod CellNumbers
pub mod Laying
pub mod PortWidths
