-- What several files here take from the specs of this crate and from the crates below.
pub use Rattle.std.proofs.Common.{[], ◌++◌, ◌+◌, ◌<◌, ◌∙◌, ◌∷◌, ◌≡◌, ◌≤◌, ◌⊎◌, Bool, List, None, Option, Some, ap, arith, get_or, inl, inr, length, map, refl, set, subst, suc, sym, take, ℕ}
pub use Rattle.std.specs.List.{Contains, flat_map}
pub use Rattle.std.specs.Prelude.{slice_get, slice_index_or}
pub use Rattle.elab_finish.specs.declared.left.Left.{Left}
pub use Rattle.elab_items.specs.Designs.{width_in, widths_of}
pub use Rattle.elab_items.specs.Desks.{AreCopies}
pub use Rattle.elab_items.specs.Signals.{declared}
pub use Rattle.elab_items.specs.Starts.{names_at}
pub use Rattle.elab_proc.specs.Refusals.{AreSized, same_form}
pub use Rattle.flat_assigns.specs.Sides.{Slice, all_places, slices}
pub use Rattle.flat_assigns.specs.Writers.{Target, targets}
pub use Rattle.flat_instances.specs.Places.{Place}
pub use Rattle.flat_instances.specs.declared.item.FlatItem.{FlatItem}
pub use Rattle.flat_items.specs.Flattened.{Flat}
pub use Rattle.flat_items.specs.Views.{flat_of}
pub use Rattle.flat_scopes.specs.declared.signal.Signal.{Signal}
pub use Rattle.net_builder.proofs.Writing.{has_cases, has_first, has_more, has_none}
pub use Rattle.net_builder.specs.Building.{Building, empty, signal}
pub use Rattle.vlog_meaning.specs.Scopes.{Names, names_of}
pub use Rattle.vlog_syntax.specs.declared.item.Process.{Process}
pub use Rattle.elab_lefts.specs.Lefts.{bit_left, design_lefts, item_lefts, lefts_by, port_left, port_lefts, process_lefts, whole_left, write_left}
