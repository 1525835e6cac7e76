mod Common
pub mod Assigning
pub mod Building
pub mod Counting
pub mod Declaring
pub mod Noting
pub mod Renewing
pub mod Running
pub mod Sounding
pub mod Standing
pub mod Starting
pub mod Timing
pub mod Turning
pub mod Writing
