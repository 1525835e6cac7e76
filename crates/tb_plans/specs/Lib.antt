pub mod Values
pub mod Transfers
pub mod Copies
pub mod Selections
pub mod Plans
pub mod Making
