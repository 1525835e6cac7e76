pub mod Words
pub mod Lines
pub mod Conditions
pub mod Definitions
pub mod Uses
pub mod Moves
pub mod Files
pub mod Laws
