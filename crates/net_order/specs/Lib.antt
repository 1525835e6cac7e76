pub mod Orders
pub mod Answers
pub mod Listing
pub mod Reaching
