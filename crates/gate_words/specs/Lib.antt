pub mod Bits
pub mod Products
pub mod Rows
pub mod Shifts
pub mod Sums
