-- What several files here take from the specs of this crate and from the crates below.
pub use Rattle.std.proofs.Common.{[], ◌++◌, ◌∙◌, ◌∷◌, ◌≡◌, Bool, Err, List, None, Ok, Option, Result, Some, ap, false, length, refl, subst, sym, true, true≢false, ℕ}
pub use Rattle.std.specs.Prelude.{IsSome, codes, decimal, slice_get}
pub use Rattle.flat_instances.specs.Places.{Place}
pub use Rattle.flat_items.specs.declared.task.Task.{Task}
pub use Rattle.flat_items.specs.declared.task.Turn.{Turn}
pub use Rattle.flat_scopes.specs.Openings.{Opened, unopened}
pub use Rattle.flat_scopes.specs.declared.opening.Placing.{Placing}
pub use Rattle.flat_scopes.specs.declared.signal.What.{What}
pub use Rattle.vlog_syntax.specs.declared.identifier.Identifier.{Identifier}
pub use Rattle.vlog_syntax.specs.declared.item.GenerateLoop.{GenerateLoop}
pub use Rattle.vlog_syntax.specs.declared.item.Item.{Item, out-Item, out-roll-Item}
pub use Rattle.vlog_syntax.specs.declared.item.Item.TheOpen.{Item-F}
pub use Rattle.vlog_syntax.specs.declared.module.Module.{Module}
