mod Common
pub mod Endings
pub mod Words
