pub mod PartList
pub mod Rooms
pub mod UseList
