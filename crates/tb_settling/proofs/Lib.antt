mod Common
pub mod Replacing
pub mod Stores
pub mod Reading
pub mod Sides
pub mod Windows
pub mod Passing
pub mod Ending
pub mod Scenes
pub mod Planning
pub mod Showing
pub mod Turning
pub mod Once
