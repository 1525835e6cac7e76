pub mod Cases
pub mod Expressions
pub mod Features
pub mod Order
