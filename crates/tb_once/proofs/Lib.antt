mod Common
pub mod Values
pub mod Staying
pub mod Settled
pub mod Outcomes
pub mod Designs
pub mod Steady
