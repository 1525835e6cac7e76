pub mod Laws
pub use Rattle.elab_hier.specs.Elaborations
pub use Rattle.elab_hier.specs.Accepted
pub use Rattle.elab_hier.specs.Refusals
pub use Rattle.elab_items.specs.declared.answer.ElabError
