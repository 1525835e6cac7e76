mod Common
pub mod Bits
pub mod KindLemmas
pub mod UnaryLemmas
pub mod NodeLemmas
pub mod Extensions
pub mod Selects
pub mod Growing
pub mod Adding
pub mod Arms
pub mod Facts
pub mod Operands
pub mod Refused
pub mod Wires
pub mod Layouts
pub mod Showing
pub mod Netlists
