pub mod Grammar
pub mod Lines
pub mod Uses
pub mod Truths
