pub mod Choices
pub mod Names
pub mod SiteTexts
pub mod Rests
