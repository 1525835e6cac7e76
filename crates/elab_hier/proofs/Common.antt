-- What several files here take from the specs of this crate and from the crates below.
pub use Rattle.std.proofs.Common.{[], ◌++◌, ◌+◌, ◌<◌, ◌↔◌, ◌∙◌, ◌∷◌, ◌≡◌, ◌≢◌, ◌≤◌, ◌⊎◌, Bool, Err, IsTrue, List, None, Ok, Option, Result, Some, add-one, ap, arith, drop, false, get_or}
pub use Rattle.std.proofs.Common.{get_or-set_other, get_or-set_same, inl, inr, length, length-set, refl, rules, set, subst, suc, sym, take, true, zero, ℕ}
pub use Rattle.std.proofs.lemmas.Result.{IfErr-weaker, IfOk-weaker}
pub use Rattle.std.specs.List.{Contains}
pub use Rattle.std.specs.Prelude.{IfErr, IfOk, IsErrAnd, if◌then◌else◌, option_map, slice_get}
pub use Rattle.elab_finish.proofs.Joined.{same_there}
pub use Rattle.elab_items.specs.Designs.{IsDesign, is_clock, port_numbers, widths_of, without}
pub use Rattle.elab_items.specs.Signals.{bits_of, declared, max_bits}
pub use Rattle.elab_items.specs.Starting.{AllStart}
pub use Rattle.elab_items.specs.Starts.{start_values, starts_from}
pub use Rattle.elab_items.specs.Timed.{BuildsAll, FailsSome}
pub use Rattle.elab_items.specs.Turns.{IsPast, max_turns}
pub use Rattle.elab_items.specs.declared.answer.ElabError.{ElabError}
pub use Rattle.elab_items.specs.declared.answer.ElabError.TheVariants.{Memory, TooMany}
pub use Rattle.elab_writers.proofs.Finishing.{first_stands}
pub use Rattle.elab_writers.specs.Numbers.{AreFlagged, declared_numbers, input_numbers, output_numbers}
pub use Rattle.flat_clocks.specs.Clocks.{Clocks, clocks_of}
pub use Rattle.flat_clocks.specs.Views.{clocks_in}
pub use Rattle.flat_instances.specs.declared.item.FlatItem.{FlatItem}
pub use Rattle.flat_items.specs.Flattened.{Flat, module_at}
pub use Rattle.flat_items.specs.Tops.{IsTop, own_in}
pub use Rattle.flat_items.specs.Views.{flat_of}
pub use Rattle.flat_laws.specs.Sound.{IsSound}
pub use Rattle.flat_runs.specs.Meanings.{NoneTwice}
pub use Rattle.flat_scopes.specs.Wires.{ports_of}
pub use Rattle.flat_scopes.specs.declared.signal.Signal.{Signal}
pub use Rattle.net_builder.proofs.Writing.{has_cases, has_first, has_more, has_none}
pub use Rattle.net_builder.specs.Building.{Building, empty}
pub use Rattle.netlist_core.specs.declared.raw.RawNetlist.{RawNetlist}
pub use Rattle.process_cells.specs.Items.{Widths, widths_in}
pub use Rattle.process_cells.specs.Starts.{SameButStarts, StartsWith}
pub use Rattle.vlog_meaning.specs.Scopes.{Store, nothing}
pub use Rattle.vlog_syntax.specs.declared.identifier.Identifier.{Identifier}
pub use Rattle.elab_hier.specs.Accepted.{CanRun, HasItems, IsAccepted, IsElaborated}
pub use Rattle.elab_hier.specs.Elaborations.{Elaborates, Ends, HasNetlist, laid}
pub use Rattle.elab_hier.specs.Parts.{IsBegun, IsBuilt, IsNetlistOf, IsNotBuilt, IsRefusalOf, IsRefusedAs, source_of}
pub use Rattle.elab_hier.specs.Refusals.{IsElabRefusal, RefusesEnd, RefusesSource, build_answer, counted, end, full, item, no_top, refused, short, turns}
pub use Rattle.elab_hier.specs.Tops.{AreFlags, IsSource, Source, all_inputs, clock_name, inputs, outputs}
