mod Common
pub mod Lists
pub mod Values
pub mod Signals
pub mod Chain
pub mod Joining
pub mod Storing
pub mod Writing
pub mod Combining
pub mod Growing
pub mod Led
pub mod Registers
pub mod Ends
pub mod Law
mod Worked
mod Netlists
