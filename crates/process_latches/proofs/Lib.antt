mod Common
pub mod Adding
pub mod Fitting
pub mod Parts
pub mod Assigned
pub mod Reading
pub mod Following
pub mod Choosing
pub mod Bodies
pub mod Turning
pub mod Walking
pub mod Latching
pub mod Mixing
pub mod Refusing
pub mod Initials
