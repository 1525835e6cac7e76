-- What several files here take from the specs of this crate and from the crates below.
pub use Rattle.std.proofs.Common.{[], ◌+◌, ◌<◌, ◌↔◌, ◌∙◌, ◌∷◌, ◌≡◌, ◌≢◌, ◌≤◌, ◌⊎◌, Bool, Err, IsTrue, List, None, Ok, Option, Some, ap, arith, false, inl, inr, length, map, refl, subst, sym, true, ℕ}
pub use Rattle.std.proofs.lemmas.List.{ext_get_or, length-map}
pub use Rattle.std.specs.Prelude.{slice_get, slice_index_or}
pub use Rattle.elab_finish.specs.Endings.{AreRegistersOf, IsEnding, IsRegisterOf, port_of, registers_in}
pub use Rattle.elab_finish.specs.declared.error.DesignError.{DesignError}
pub use Rattle.elab_hier.proofs.Netlists.{begin_alike, built_once, built_one, refused_once}
pub use Rattle.elab_hier.specs.Accepted.{HasItems, HasSignals, IsAccepted}
pub use Rattle.elab_hier.specs.Elaborations.{Ends, HasNetlist, laid}
pub use Rattle.elab_hier.specs.Tops.{AreFlags, IsSource, Source, all_inputs, clock_name, inputs, outputs}
pub use Rattle.elab_items.proofs.Counting.{built_count}
pub use Rattle.elab_items.specs.Items.{IsShort, Stands, cell_count}
pub use Rattle.elab_items.specs.Timed.{BuildsAll, BuildsTimed, FailsSome, FailsTimed, RefusesTimed}
pub use Rattle.flat_clocks.specs.Clocks.{Clocks, clocks_of}
pub use Rattle.flat_instances.specs.declared.item.FlatItem.{FlatItem}
pub use Rattle.flat_items.specs.Flattened.{Flat}
pub use Rattle.mcy_base.specs.declared.kind.Kind.{Kind}
pub use Rattle.net_builder.specs.Building.{Building, empty, signal}
pub use Rattle.net_builder.specs.Finished.{Follows, LeadsTo, all_led, direct, further, led_cell, led_port, step_of, stepped}
pub use Rattle.net_builder.specs.Refusals.{max_cells}
pub use Rattle.netlist_core.specs.declared.bit.Bit.{Bit}
pub use Rattle.netlist_core.specs.declared.port.Register.{Register}
pub use Rattle.netlist_core.specs.declared.raw.RawNetlist.{RawNetlist}
