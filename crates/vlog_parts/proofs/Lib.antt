pub mod Splits
pub mod Sorts
pub mod SortedParts
pub mod NumberWords
