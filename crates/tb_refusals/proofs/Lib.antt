mod Common
pub mod Notes
pub mod Firsts
