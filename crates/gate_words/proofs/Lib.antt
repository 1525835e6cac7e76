mod Common
pub mod Adders
pub mod Growing
pub mod Moving
pub mod Numbers
pub mod ProductLemmas
pub mod RowLemmas
pub mod ShiftLemmas
pub mod SumLemmas
