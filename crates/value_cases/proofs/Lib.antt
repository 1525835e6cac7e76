pub mod Contexts
