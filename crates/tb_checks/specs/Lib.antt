pub mod Expressions
pub mod Lefts
pub mod Nets
pub mod Statements
pub mod Starts
pub mod Processes
pub mod Views
