mod Common
pub mod Lists
pub mod Variants
pub mod Drawing
pub mod Staying
pub mod Keeping
pub mod Evaluating
