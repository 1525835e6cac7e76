-- What several files here take from the specs of this crate and from the crates below.
pub use Rattle.std.proofs.Common.{[], ◌++◌, ◌<◌, ◌∙◌, ◌∷◌, ◌≡◌, List, add-one, ap, append_assoc, arith, drop, get_or, length, map, refl, subst, suc, sym, take, zero, ℕ}
pub use Rattle.std.specs.List.{flat_map}
pub use Rattle.std.specs.Prelude.{None, Option, Some}
pub use Rattle.vlog_meaning.specs.Scopes.{names_of}
pub use Rattle.vlog_syntax.specs.declared.identifier.Identifier.{Identifier}
pub use Rattle.vlog_syntax.specs.declared.left_side.LeftSide.{LeftSide}
pub use Rattle.tb_items.specs.Connections.{clock_missing, connections, gives_clock, taken, wire_items}
pub use Rattle.tb_items.specs.Items.{clock_of, first_region, held_instance, step_items}
