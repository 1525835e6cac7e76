mod Common
pub mod Runs
pub mod Fronts
pub mod SymbolFronts
pub mod ShapeFronts
pub mod StringFronts
pub mod KindLemmas
pub mod TokenLemmas
pub mod GapLemmas
pub mod NumberLemmas
pub mod CutLemmas
pub mod PlaceLemmas
pub mod ScanLemmas
pub mod AnswerLemmas
pub mod StringValues
