mod Common
mod Bits
mod Opens
mod Signals
mod Tables
mod Sharing
pub mod Graphs
mod Answering
