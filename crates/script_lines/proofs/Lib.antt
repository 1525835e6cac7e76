pub mod Tokenizing
mod Fronts
