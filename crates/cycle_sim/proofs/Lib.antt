mod Common
mod PartNumbers
mod Wired
mod Laid
mod CellShapes
pub mod Plans
mod Placed
mod Growing
mod Lists
mod Computed
pub mod Cycles
mod Reading
mod Marking
mod Current
mod ReaderLists
mod Fronts
mod Few
mod Settling
mod Gates
mod ByNumbers
