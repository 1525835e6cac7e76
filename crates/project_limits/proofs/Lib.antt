mod Common
pub mod Sizes
pub mod Names
pub mod Lines
pub mod Headers
pub mod Options
pub mod Files
pub mod Tests
pub mod Tags
pub mod Requirements
pub mod Places
pub mod Sources
