mod Common
mod WordParts
mod OptionWords
mod FoundRows
mod Numerals
mod AllSaid
mod Turns
mod RunTurns
mod RunEnds
mod RunWords
mod OptionValues
mod SaidOptions
mod OptionList
mod StatusWords
mod DemoWords
mod Whole
pub mod Limits
