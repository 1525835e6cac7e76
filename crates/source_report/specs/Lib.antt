pub mod Lists
pub mod Sources
pub mod Texts
pub mod Requirements
