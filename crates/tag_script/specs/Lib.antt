pub mod Blocks
pub mod Checks
pub mod Courses
pub mod Fits
pub mod Hearing
pub mod Outcomes
pub mod Reading
pub mod Values
