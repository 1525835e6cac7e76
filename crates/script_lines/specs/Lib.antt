pub mod Classes
pub mod Tokens
pub mod Rows
pub mod Parting
