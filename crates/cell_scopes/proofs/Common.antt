-- What several files here take from the specs of this crate and from the crates below.
pub use Rattle.std.proofs.Common.{[], ◌++◌, ◌+◌, ◌-◌, ◌∙◌, ◌∷◌, ◌≡◌, ◌≤◌, Bool, List, ap, arith, length, length-append, refl, replicate, subst, suc, sym, take, zero, ℕ}
pub use Rattle.std.proofs.lemmas.List.{append-nil, append_assoc, length-map, length-replicate, map-append}
pub use Rattle.std.specs.Prelude.{map}
pub use Rattle.elab_items.proofs.Counting.{built_count}
pub use Rattle.elab_items.proofs.Declaring.{no_cells, widths_are}
pub use Rattle.elab_items.proofs.Standing.{builds_stand, rest_is, widths_stay}
pub use Rattle.elab_items.specs.Designs.{widths_of}
pub use Rattle.elab_items.specs.Items.{Builds, Stands, cell_count}
pub use Rattle.elab_items.specs.Signals.{declared}
pub use Rattle.flat_instances.specs.declared.item.FlatItem.{FlatItem}
pub use Rattle.flat_items.specs.Flattened.{Flat}
pub use Rattle.flat_items.specs.Views.{flat_of}
pub use Rattle.net_builder.specs.Building.{Building, empty}
pub use Rattle.process_cells.specs.Items.{Widths, widths_in}
pub use Rattle.project_options.specs.Instances.{is_within_some}
pub use Rattle.vlog_syntax.specs.declared.module.Module.{Module}
unfoldable pub use Rattle.cell_scopes.specs.Scopes.{cell_scopes}
pub use Rattle.cell_scopes.specs.Scopes.{AreSkipped, item_scopes, prefix_at, scope_of, scopes_from}
