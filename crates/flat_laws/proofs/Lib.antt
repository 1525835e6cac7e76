mod Common
pub mod Lists
pub mod Sizes
pub mod Growing
pub mod Opening
pub mod Opened
pub mod Items
pub mod Parts
pub mod Entering
pub mod Ports
pub mod Flattened
