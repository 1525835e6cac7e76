pub mod Fractions
pub mod Texts
