mod Common
mod Counts
mod Ascending
mod Order
mod Firsts
mod Ranks
mod Numbered
pub mod Within
