-- What several files here take from the specs of this crate and from the crates below.
pub use Rattle.std.proofs.Common.{[], ◌%◌, ◌&&◌, ◌*◌, ◌++◌, ◌+ℤ◌, ◌+◌, ◌-◌, ◌/◌, ◌<◌, ◌^◌, ◌||◌, ◌∙◌, ◌∷◌, ◌≡◌, ◌≤◌, ◌⊎◌, Bool, List, None, Option, Some, add-one, ap, append-nil, append_assoc, arith}
pub use Rattle.std.proofs.Common.{drop, ext_get_or, false, get_or, inl, inr, length, length-append, map, max, nat_eq, not, pos, refl, replicate, rules, slice_get, subst, suc, sym, take, true, zero, ℕ}
pub use Rattle.std.proofs.Common.{ℤ}
pub use Rattle.std.proofs.Math.Seq.{take-length}
pub use Rattle.std.proofs.lemmas.Bool.{false≢true, le-leb, lt-ltb, or_cases, or_left, or_right}
pub use Rattle.std.proofs.lemmas.Bool.Decides.{eqb_tells, nat_tests}
pub use Rattle.std.proofs.lemmas.List.{get_or-set_other, get_or-set_same, length-map, length-replicate, length-set, map-append, take_more}
pub use Rattle.std.proofs.lemmas.Map.Views.{exact_unsigned_eq}
pub use Rattle.std.proofs.lemmas.Result.{IfErr-weaker, IfOk-weaker, on_ok_weaker}
pub use Rattle.std.specs.List.{Contains, flat_map}
pub use Rattle.std.specs.Prelude.{◌==◌, Err, IfErr, IfOk, Ok, OnOk, Result, if◌then◌else◌, nat_le, nat_lt, slice_index_or, slice_set}
pub use Rattle.elab_proc.specs.Refusals.{AreSized, arm_refusals, assign_refusals, case_faults, case_refusals, divisions, form_step, kind_refusals, name_refusals, own_faults, part_refusals, same_form}
pub use Rattle.elab_proc.specs.Refusals.{sides_faults, step_refusals, wrong}
pub use Rattle.elab_proc.specs.declared.refusal.Refusal.{Refusal}
pub use Rattle.elab_proc.specs.declared.refusal.Refusal.TheVariants.{Unsupported, Wrong}
pub use Rattle.expr_plans.specs.Made.{all_unsupported, plan, plans}
pub use Rattle.flat_runs.proofs.Combining.{combinational_add, join_of}
pub use Rattle.flat_runs.proofs.Growing.{cells_extend, registers_stand}
pub use Rattle.flat_runs.proofs.Signals.{nets_in, own_stays, ports_in}
pub use Rattle.flat_runs.specs.Adding.{AddsItem, HasOwnNets, Means}
pub use Rattle.flat_runs.specs.Parts.{AllJoin, AllMean, AreJoints, AreRegistersBelow, AreStored, IsSettled, StandsBelow as Stands, places_from, whole, with_joints, with_registers}
pub use Rattle.mcy_base.specs.declared.span.Span.{Span}
pub use Rattle.mcy_base.specs.declared.word.Word.{Word}
pub use Rattle.net_builder.proofs.Writing.{has_cases, has_first, has_more, has_none, nat_eq_same}
pub use Rattle.net_builder.specs.Building.{AllBelow, AreAdded, Building, Grows, HasSignals, IsSignal, PortsBelow, RunsIn, declared_at, signal, start_bits, store, with_register, with_signal}
pub use Rattle.net_builder.specs.Building.{with_start}
pub use Rattle.net_builder.specs.Refusals.{IsShort}
pub use Rattle.net_builder.specs.declared.builder.Joint.{Joint}
pub use Rattle.net_builder.specs.declared.error.ElabError.{ElabError}
pub use Rattle.netlist_core.specs.declared.bit.Bit.{Bit}
pub use Rattle.netlist_core.specs.declared.bit.Bit.TheVariants.{Fixed, Net}
pub use Rattle.netlist_core.specs.declared.port.Register.{Register}
pub use Rattle.proc_muxes.proofs.Frames.{keeps-widths, known-distinct, nets-added, signal-with, stands-distinct, stands-held}
pub use Rattle.proc_muxes.proofs.Keeping.{keeps}
pub use Rattle.proc_muxes.proofs.Simulates.{leaves-the-effect, number-turned}
pub use Rattle.proc_muxes.specs.Builds.{Builds, Index, Work, choices, distinct, distinct_after, held, restored, stands}
pub use Rattle.proc_muxes.specs.Clear.{AreClear, AreHeld, CanAssign, CanWriteAll, IsClear, IsClearPart, IsReady}
pub use Rattle.proc_muxes.specs.Counts.{cells_of}
pub use Rattle.proc_muxes.specs.Shows.{Conforms, Keeps, Known, StandsBelow, last_held}
pub use Rattle.proc_muxes.specs.Working.{AllFit, Built, all_have, given_back, pending_of, work}
pub use Rattle.proc_muxes.specs.declared.change.Change.{Change}
pub use Rattle.proc_muxes.specs.declared.choice.Choice.{Choice}
pub use Rattle.process_events.specs.Events.{Clocked, Combinational, Once, Refused, Sensitivity, is_toggle, of_always, of_kind, said, sensitivity}
pub use Rattle.process_latches.proofs.Initials.{initial_assignment, initial_block, sized_there}
pub use Rattle.process_latches.proofs.Latching.{targets_are}
pub use Rattle.process_latches.specs.Initial.{assignment_refusals, initial_item, initial_refusals, initial_step, start_refusals, value_refusals}
pub use Rattle.process_latches.specs.Mixed.{first_place, lesser, mixed_after, mixed_at, mixed_refusals, same_kind}
pub use Rattle.process_latches.specs.Refused.{control_refusals, latch_refusal, latch_refusals, process_refusals, refusals_by, waiting_refusals}
pub use Rattle.process_latches.specs.Sound.{arms_stop, has_stop, part_form, right_faults, sound, sound_arms, sound_by, sound_expr, sound_left, sound_part, sound_right, sound_test}
pub use Rattle.process_latches.specs.Writes.{target_of, writes}
pub use Rattle.process_latches.specs.declared.marks.Write.{Write}
pub use Rattle.vlog_effects.proofs.Cases.{bit-self}
pub use Rattle.vlog_effects.proofs.Numbers.{length-bits_of, number-small}
pub use Rattle.vlog_effects.proofs.Writing.{length-written}
pub use Rattle.vlog_effects.specs.Effects.{AreBlocking, HasWidth, HaveWidths, IsBlocking, State, Update, Values, arm_effect, assigned, bit_same, effect, holds, left_by, matches, numbers, part_updates}
pub use Rattle.vlog_effects.specs.Effects.{put, put_all, right_bits, started, updated, updated_all, updates_of}
pub use Rattle.vlog_effects.specs.Expressions.{bits_of, constant_faults, constant_of, is_constant, is_signed_of, number, number as value_of, value, width_of}
pub use Rattle.vlog_effects.specs.Latches.{Target, all_missed, all_of, arms_covered, arms_early, arms_targets, covered, early, first_of, is_assigned, is_latch, latch_of, latches, missed, part_targets}
pub use Rattle.vlog_effects.specs.Latches.{parts_cover, parts_missed, parts_targets, some_bit, targets}
pub use Rattle.vlog_effects.specs.LeftSides.{Indexed, Part, Range, Select, Vector, Whole, bit_at, bits_from, concatenated, part_vector, parts_of, parts_step, parts_width, select_width, vector_of}
pub use Rattle.vlog_effects.specs.LeftSides.{width_by, written}
unfoldable pub use Rattle.vlog_effects.specs.Steps.{turns}
pub use Rattle.vlog_effects.specs.Steps.{Arm, Arms, Assign, Assigning, Case, Choose, Done, Flaw, InNames, Item, Loop, Otherwise, Refuse, Selection, Steps, Test, Turns, all_turns, always, arms_of}
pub use Rattle.vlog_effects.specs.Steps.{assigning, chosen_arms, default_of, done_by, flaws_of, followed, front, in_turn, item_of, labelled, labels_of, last_body, loop_steps, looped, max_turns}
pub use Rattle.vlog_effects.specs.Steps.{name_alone, names_all, refused, selection_of, step_flaws, step_of, stepped, steps_of, tested, turn_names, word_of}
pub use Rattle.vlog_meaning.proofs.Blanks.{left_nil, right_nil, these_nil, those_nil}
pub use Rattle.vlog_meaning.specs.Scopes.{Names, Store, decl_shape, names_of, nothing}
pub use Rattle.vlog_meaning.specs.Senses.{Bits, IsWhole, Sense, all_faults, all_zeros, assigned as value_size, constant_faults_at, either, fault, index_features, is_empty, name_faults, no_bits}
pub use Rattle.vlog_meaning.specs.Senses.{or_else, own_zeros, sense, senses, total_width}
pub use Rattle.vlog_meaning.specs.declared.fault.Cause.TheVariants.{DivideByZero}
pub use Rattle.vlog_meaning.specs.declared.fault.Fault.{Fault}
pub use Rattle.vlog_meaning.specs.declared.scope.Decl.{Decl}
pub use Rattle.vlog_meaning.specs.declared.scope.Decl.TheVariants.{Constant, Signal}
pub use Rattle.vlog_meaning.specs.declared.shapes.Shape.{Shape}
pub use Rattle.vlog_syntax.specs.declared.expr.Expr.{Expr}
pub use Rattle.vlog_syntax.specs.declared.feature.Feature.{Feature}
pub use Rattle.vlog_syntax.specs.declared.feature.Feature.TheVariants.{ClockList, Delay, InitialForm, MixedAssign}
pub use Rattle.vlog_syntax.specs.declared.identifier.Identifier.{Identifier}
pub use Rattle.vlog_syntax.specs.declared.item.Process.{Process}
pub use Rattle.vlog_syntax.specs.declared.left_side.LeftSide.{LeftSide, out-LeftSide}
pub use Rattle.vlog_syntax.specs.declared.left_side.LeftSide.TheViews.{roll-LeftSide, the_lemmas}
pub use Rattle.vlog_syntax.specs.declared.stmt.Assignment.{Assignment}
pub use Rattle.vlog_syntax.specs.declared.stmt.CaseItem.{CaseItem}
pub use Rattle.vlog_syntax.specs.declared.stmt.Stmt.{Stmt, out-Stmt}
pub use Rattle.vlog_syntax.specs.declared.stmt.Stmt.TheFolds.{fold-CaseItem, fold-roll-CaseItem, fold-roll-Stmt, fold_out-Stmt, ind-Stmt, map-Stmt}
pub use Rattle.vlog_syntax.specs.declared.stmt.Stmt.TheOpen.{CaseItem-F, Stmt-F}
pub use Rattle.process_cells.specs.Items.{Adds, AddsBy, AddsMeaning, AddsProcess, BuildsBy, HasRegisters, IsFit, cells_by, effect_of, meaning_of, process_cells, process_steps, statement, widths_in}
pub use Rattle.process_cells.specs.Laws.{AcceptedAreReady, AcceptedAreSound, AcceptedCanBeBuilt, ClockedAreAdded, CombinationalAreAdded, MixedAreRefused, ProcessesAreLaid}
pub use Rattle.process_cells.specs.Processes.{AllKnown, AllReturn, AreNamed, CanBeBuilt, CanStore, CanStoreAll, Clocks, Combines, HasOneKind, Stores, StoresOne, all_kept, all_rejoined, all_waiting}
pub use Rattle.process_cells.specs.Processes.{bits_by, blank, given_own, has_blocking, joints_of, kept_of, last_bits, last_seen, process_effect, rejoined, variables, with_write, written_numbers}
pub use Rattle.process_cells.specs.Processes.{zeros}
pub use Rattle.process_cells.specs.Ready.{AllWait, HasPlaces, IsAccepted}
pub use Rattle.process_cells.specs.declared.kept.Kept.{Kept}
