mod Common
pub mod Firsts
pub mod Lists
pub mod Order
pub mod Ranks
pub mod SideLemmas
pub mod SizeLemmas
