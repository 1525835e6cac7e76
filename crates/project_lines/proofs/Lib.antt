mod Common
pub mod Faults
pub mod Few
pub mod Finding
pub mod Maps
pub mod Reading
pub mod Texts
