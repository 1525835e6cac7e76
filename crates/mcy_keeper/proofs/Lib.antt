mod FailedWrites
mod Bounds
