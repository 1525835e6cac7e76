pub mod FormatList
pub mod Rooms
pub mod ShareList
