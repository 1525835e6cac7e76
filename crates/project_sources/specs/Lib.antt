pub mod Netlists
pub mod Skipped
