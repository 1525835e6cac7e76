pub mod DigitLists
