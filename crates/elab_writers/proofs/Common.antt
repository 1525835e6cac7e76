-- What several files here take from the specs of this crate and from the crates below.
pub use Rattle.std.proofs.Common.{[], ◌++◌, ◌+◌, ◌<◌, ◌↔◌, ◌∙◌, ◌∷◌, ◌≡◌, ◌≤◌, ◌⊎◌, Bool, IsTrue, List, None, Option, Some, ap, append_assoc, arith, false, get_or, inl, inr, length, map, refl, subst}
pub use Rattle.std.proofs.Common.{suc, sym, true, zero, ℕ}
pub use Rattle.std.proofs.lemmas.List.Elements.{Contains-append_cases, Contains-append_left, Contains-append_right, Contains-push}
pub use Rattle.std.specs.List.{Contains, flat_map}
pub use Rattle.std.specs.Prelude.{◌&&◌, ◌||◌, if◌then◌else◌, nat_eq, nat_lt, option_map, slice_get, slice_index_or}
pub use Rattle.elab_finish.proofs.Registering.{registers_have, signals_have}
pub use Rattle.elab_finish.specs.Endings.{AreKnown, is_register, registers_in}
pub use Rattle.elab_items.proofs.Standing.{builds_stand}
pub use Rattle.elab_items.specs.Designs.{direction_in, has, has_direction, is_clock, port_number, port_numbers, registers_of, some_stores, without}
pub use Rattle.elab_items.specs.Items.{Builds, HasParts, IsNewPort, Refuses, RefusesProcess, RefusesSides, Stands, found_in}
pub use Rattle.elab_items.specs.Meanings.{Means}
pub use Rattle.elab_items.specs.Starts.{names_at}
pub use Rattle.elab_items.specs.Timed.{BuildsAll}
pub use Rattle.elab_items.specs.Writers.{HasWriter, SomeBitWritten, TellsWriters}
pub use Rattle.elab_proc.specs.Refusals.{arm_refusals, assign_refusals, case_faults, case_refusals, is_written, kind_refusals, name_refusals, own_faults, part_refusals, same_form, sides_faults}
pub use Rattle.elab_proc.specs.Refusals.{step_refusals}
pub use Rattle.elab_proc.specs.declared.refusal.Refusal.{Refusal}
pub use Rattle.flat_assigns.specs.Assignments.{IsRefusal, assignment, assignment_faults, first_refusal}
pub use Rattle.flat_assigns.specs.Sides.{Slice, all_places, left_width, placed, slice_places, slices}
pub use Rattle.flat_clocks.specs.Clocks.{Clocks, Clocks as Uses}
pub use Rattle.flat_instances.specs.Places.{Place}
pub use Rattle.flat_instances.specs.declared.item.FlatItem.{FlatItem}
pub use Rattle.flat_items.specs.Flattened.{Flat}
pub use Rattle.flat_laws.specs.Sound.{AllStand, IsSound, declares, times_declared}
pub use Rattle.flat_runs.proofs.Writing.{nothing_written, registers_of as registers_stored, writer_stays}
pub use Rattle.flat_runs.specs.Adding.{AddsItem, AddsItems, HasOwnNets, IsWritten}
pub use Rattle.flat_runs.specs.Meanings.{Assign, Clocked, Combinational, Meaning, NamesOnce, NoneTwice, all_stored, stored_by}
pub use Rattle.flat_runs.specs.Parts.{places_from}
pub use Rattle.flat_runs.specs.Writing.{HasOneWriter, IsNew}
pub use Rattle.mcy_base.specs.declared.span.Span.{Span}
pub use Rattle.net_builder.proofs.Writing.{has_cases, has_first, has_more, has_none, nat_eq_same}
pub use Rattle.net_builder.specs.Building.{Building, empty, signal}
pub use Rattle.netlist_core.specs.declared.bit.Bit.{Bit}
pub use Rattle.netlist_core.specs.declared.port.Register.{Register}
pub use Rattle.proc_muxes.specs.Builds.{distinct, distinct_after, stands}
pub use Rattle.proc_muxes.specs.Shows.{Conforms, Known}
pub use Rattle.process_cells.specs.Items.{AddsMeaning, BuildsBy, Widths, effect_of, meaning_of, process_meaning, process_steps, statement, widths_in}
pub use Rattle.process_cells.specs.Laws.{AcceptedCanBeBuilt}
pub use Rattle.process_cells.specs.Processes.{HasOneKind, has_blocking, variables}
pub use Rattle.process_latches.specs.Refused.{body_refusals, control_refusals, latch_refusals, process_refusals, refusals_by, waiting_refusals}
pub use Rattle.vlog_effects.specs.Latches.{Target, arms_targets, part_targets, parts_targets, targets}
pub use Rattle.vlog_effects.specs.LeftSides.{Part, part_vector, parts_of, vector_of}
pub use Rattle.vlog_effects.specs.Steps.{Arm, Arms, Assigning, Case, Choose, Done, Otherwise, Refuse, Steps, steps_of}
pub use Rattle.vlog_meaning.proofs.Blanks.{left_nil, right_nil}
pub use Rattle.vlog_meaning.specs.Scopes.{Names, Store}
pub use Rattle.vlog_meaning.specs.declared.fault.Fault.{Fault}
pub use Rattle.vlog_syntax.specs.declared.expr.Expr.{Expr}
pub use Rattle.vlog_syntax.specs.declared.identifier.Identifier.{Identifier}
pub use Rattle.vlog_syntax.specs.declared.item.Process.{Process}
pub use Rattle.vlog_syntax.specs.declared.left_side.LeftSide.{LeftSide}
pub use Rattle.elab_writers.specs.Laws.{BuildersAreOfDesigns, DesignsCanFinish, ItemsHaveOneWriter}
pub use Rattle.elab_writers.specs.Numbers.{AreFlagged, declared_numbers, input_numbers}
