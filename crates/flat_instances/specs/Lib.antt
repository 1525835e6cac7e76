pub mod Gifts
pub mod Wires
pub mod Instances
pub mod Places
pub mod Views
