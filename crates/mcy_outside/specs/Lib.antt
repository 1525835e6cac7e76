pub mod Disks
pub mod Files
pub mod MemoryFiles
pub mod MemorySink
pub mod RealSink
pub mod Written
