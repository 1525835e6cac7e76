pub mod Expressions
pub mod Passed
pub mod Meaning
pub mod OfKinds
