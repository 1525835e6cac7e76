mod Common
pub mod BareTexts
pub mod BareMoves
pub mod BareUses
pub mod BareFiles
pub mod BareValues
pub mod BareRules
pub mod BareTrees
