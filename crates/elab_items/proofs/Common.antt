-- What several files here take from the specs of this crate and from the crates below.
pub use Rattle.std.proofs.Common.{[], ◌++◌, ◌+◌, ◌-◌, ◌<◌, ◌↔◌, ◌∙◌, ◌∷◌, ◌≡◌, ◌≢◌, ◌≤◌, ◌⊎◌, Bool, IsTrue, List, None, Option, Some, ap, arith, drop, false, get_or, get_or-set_other, get_or-set_same}
pub use Rattle.std.proofs.Common.{inl, inr, length, length-append, length-set, lit≤, map, refl, rules, set, subst, suc, sym, take, true, zero, ℕ}
pub use Rattle.std.proofs.lemmas.Bool.{cases_eq, le-ltb, lt-ltb}
pub use Rattle.std.proofs.lemmas.List.{append-nil, append_assoc, get_or_append_left, get_or_default, get_or_push, length-map, map-append, take_more}
pub use Rattle.std.proofs.lemmas.List.Elements.{Contains-append_cases, Contains-append_left, Contains-append_right}
pub use Rattle.std.proofs.lemmas.Option.{same_Some, same_Some as some_same, slice_get_within}
pub use Rattle.std.specs.List.{Contains}
pub use Rattle.std.specs.Prelude.{if◌then◌else◌, option_map, option_to_list, slice_get, slice_index_or}
pub use Rattle.elab_proc.specs.Order.{IsFirst}
pub use Rattle.elab_proc.specs.Refusals.{is_written, same_form}
pub use Rattle.elab_proc.specs.declared.refusal.Refusal.{Refusal}
pub use Rattle.expr_plans.specs.Made.{Made, made_of}
pub use Rattle.flat_assigns.proofs.Forms.{form_is}
pub use Rattle.flat_assigns.specs.Assignments.{IsRefusal, assignment}
pub use Rattle.flat_assigns.specs.Built.{IsBuilt, IsLimit, IsReady}
pub use Rattle.flat_assigns.specs.Forms.{form_parts}
pub use Rattle.flat_assigns.specs.Sides.{Slice, all_places, left_width, placed, slice_places, slices}
pub use Rattle.flat_assigns.specs.Values.{right_cells, right_refusals, right_value}
pub use Rattle.flat_assigns.specs.Writers.{Target, bit_targets, targets}
pub use Rattle.flat_assigns.specs.declared.written.WrittenBit.{WrittenBit}
pub use Rattle.flat_clocks.specs.Clocks.{Clocks}
pub use Rattle.flat_clocks.specs.Views.{clocks_in}
pub use Rattle.flat_instances.specs.Places.{Place}
pub use Rattle.flat_instances.specs.declared.item.FlatItem.{FlatItem}
pub use Rattle.flat_items.specs.Flattened.{Flat}
pub use Rattle.flat_items.specs.Views.{flat_of}
pub use Rattle.flat_laws.specs.Sound.{AllStand, AreSized, HasBits, IsSound, ItemStands, NamesSignal, PlaceStands}
pub use Rattle.flat_runs.proofs.Signals.{declared_own, empty_owns}
pub use Rattle.flat_runs.specs.Adding.{AddsItems, HasOwnNets}
pub use Rattle.flat_runs.specs.Designs.{Design}
pub use Rattle.flat_runs.specs.Finishing.{Begins}
pub use Rattle.flat_runs.specs.Meanings.{Assign, Meaning, Place as Written, Writes}
pub use Rattle.flat_runs.specs.Parts.{StandsBelow, places_from, whole}
pub use Rattle.flat_scopes.specs.declared.signal.Signal.{Signal}
pub use Rattle.loop_turns.specs.Counts.{IsLeft, process_turns}
pub use Rattle.mcy_base.specs.declared.kind.Kind.{Kind}
pub use Rattle.mcy_base.specs.declared.span.Span.{Span}
pub use Rattle.net_builder.proofs.Parts.{below_later, length_fresh, own_more}
pub use Rattle.net_builder.proofs.Writing.{has_cases, has_first, has_more, has_none}
pub use Rattle.net_builder.specs.Building.{AllBelow, Building, HasSignals, IsSignal, PortsBelow, empty, fresh_bits, own_bits, signal, start_bits, with_declared}
pub use Rattle.net_builder.specs.Refusals.{IsShort as IsShortOf, max_cells}
pub use Rattle.net_builder.specs.declared.error.ElabError.{ElabError}
pub use Rattle.netlist_core.specs.declared.bit.Bit.{Bit}
pub use Rattle.process_cells.proofs.Items.{clocked_adds, combinational_adds, steps_are}
pub use Rattle.process_cells.specs.Items.{Adds, AddsBy, AddsMeaning, BuildsBy, IsFit, Widths, cells_by, effect_of, meaning_of, process_cells, process_meaning, process_steps, statement, widths_in}
pub use Rattle.process_cells.specs.Processes.{CanBeBuilt, variables}
pub use Rattle.process_cells.specs.Ready.{HasPlaces}
pub use Rattle.process_cells.specs.Starts.{SameButStarts, StartsWith, assigned_value, process_starts}
pub use Rattle.process_latches.specs.Refused.{process_refusals}
pub use Rattle.process_latches.specs.Sound.{sound}
pub use Rattle.process_latches.specs.Writes.{target_of, writes}
pub use Rattle.process_latches.specs.declared.marks.Write.{Write}
pub use Rattle.vlog_effects.specs.LeftSides.{Part, parts_of}
pub use Rattle.vlog_effects.specs.Steps.{Steps, steps_of}
pub use Rattle.vlog_meaning.specs.Answers.{least}
pub use Rattle.vlog_meaning.specs.Scopes.{Names, Store, decl_shape, names_of, nothing}
pub use Rattle.vlog_meaning.specs.declared.scope.Decl.{Decl}
pub use Rattle.vlog_syntax.specs.declared.expr.Expr.{Expr}
pub use Rattle.vlog_syntax.specs.declared.item.Process.{Process}
pub use Rattle.vlog_syntax.specs.declared.left_side.LeftSide.{LeftSide}
pub use Rattle.elab_items.specs.Assigned.{item_numbers, process_writes}
pub use Rattle.elab_items.specs.Designs.{design_of, register_of, registers_of, some_stores, width_in, widths_of}
pub use Rattle.elab_items.specs.Desks.{AreCopies, AreRenewed, AreSound, HasFlags, Holds, Serves}
pub use Rattle.elab_items.specs.Items.{AddsCells, Builds, BuildsProcess, BuildsSides, Fails, FailsInput, FailsProcess, FailsSides, IsShort, Refuses, Stands, assign_error, cell_count, input_error}
pub use Rattle.elab_items.specs.Items.{item_cells, process_error, wrong_value}
pub use Rattle.elab_items.specs.Laws.{DesignsBegin, ItemsAreAdded, SoundAreDeclared}
pub use Rattle.elab_items.specs.Meanings.{AllMean, Means, entering, opening}
pub use Rattle.elab_items.specs.Signals.{bits_of, declared, max_bits}
pub use Rattle.elab_items.specs.Starting.{AllStart, CanStart}
pub use Rattle.elab_items.specs.Starts.{names_at, names_in, start_error, started, starts_from, with_value}
pub use Rattle.elab_items.specs.Timed.{BuildsAll, BuildsTimed, FailsSome, FailsTimed, IsSooner}
pub use Rattle.elab_items.specs.Turns.{IsPast, item_turns, max_turns, turns_in, within}
pub use Rattle.elab_items.specs.Writers.{HasWriter, IsBitWritten, SomeBitWritten, TellsWriters}
pub use Rattle.elab_items.specs.declared.desk.Desk.{Desk}
pub use Rattle.elab_items.specs.declared.error.BuildError.{BuildError}
pub use Rattle.elab_items.specs.declared.error.BuildError.TheVariants.{Memory, Refused, TooMany}
pub use Rattle.elab_items.specs.declared.error.Reason.TheVariants.{Found, Start}
