pub mod Tops
pub mod Elaborations
pub mod Accepted
pub mod Refusals
pub mod Parts
pub use Rattle.elab_writers.specs.Numbers
pub use Rattle.elab_lefts.specs.Lefts
pub use Rattle.elab_once.specs.Alike
