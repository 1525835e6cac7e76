mod Common
mod ItemLemmas
mod Known
pub mod Labels
mod Owned
pub mod Valued
mod Whole
