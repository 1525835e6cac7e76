pub mod Signals
pub mod Formulas
pub mod Made
