mod Common
pub mod Defining
pub mod Using
pub mod Coming
pub mod OneOutcome
pub mod Closing
