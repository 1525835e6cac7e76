pub mod FlatFile
pub mod OneDatabase
pub mod OneSchema
pub mod Reopened
