pub mod Order
pub mod Firsts
