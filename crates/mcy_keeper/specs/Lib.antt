pub mod Books
pub mod CleanKeeper
pub mod MemoryKeeper
