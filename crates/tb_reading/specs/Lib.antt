pub mod Processes
pub mod Readings
pub mod Reasons
pub mod Benches
pub mod Laws
