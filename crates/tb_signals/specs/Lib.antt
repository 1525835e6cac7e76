pub mod Tables
pub mod Opened
