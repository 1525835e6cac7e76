mod Common
pub mod Widths
pub mod Stepping
pub mod Apart
pub mod Starting
pub mod Telling
pub mod Pairing
mod Standing
mod Reading
pub mod MutantsAlike
mod Weighing
mod Accepting
