pub mod Evaluates
pub mod Expressions
pub mod Wiring
pub mod Laid
