-- What several files here take from the specs of this crate and from the crates below.
pub use Rattle.std.proofs.Common.{[], ◌%◌, ◌&&◌, ◌*◌, ◌++◌, ◌+ℤ◌, ◌+◌, ◌-◌, ◌/◌, ◌<◌, ◌^◌, ◌||◌, ◌∙◌, ◌∷◌, ◌≡◌, ◌≤◌, ◌⊎◌, Bool, Global, IfErr, IfOk, List, None, Option, Some, Vec, add-one, ap}
pub use Rattle.std.proofs.Common.{append-nil, append_assoc, arith, drop, ext_get_or, false, get_or, inl, inr, length, map, max, nat_eq, nat_le, nat_lt, not, pos, refl, replicate, rules, set}
pub use Rattle.std.proofs.Common.{slice_get, subst, suc, suc-add, sym, take, true, zero, ℕ, ℤ}
pub use Rattle.std.proofs.Math.Seq.{drop-cons, take-length}
pub use Rattle.std.proofs.lemmas.Bool.{eq-eqb, leb-true}
pub use Rattle.std.proofs.lemmas.Bool.Decides.{eqb_tells, leb_tells, nat_tests}
pub use Rattle.std.proofs.lemmas.List.{drop_all, drop_more, get_or-set_other, get_or-set_same, length-append, length-drop, length-map, length-replicate, length-set, length-take-le, map-append}
pub use Rattle.std.proofs.lemmas.List.{map-set, take_more}
pub use Rattle.std.proofs.lemmas.Map.Views.{exact_unsigned_eq}
pub use Rattle.std.proofs.lemmas.Result.{IfErr-weaker, on_ok_weaker}
pub use Rattle.std.specs.List.{drop-map, flat_map, take-map}
pub use Rattle.std.specs.Option.{option_map}
pub use Rattle.std.specs.Prelude.{◌==◌, Err, IfSome, IsSome, Ok, Result, if◌then◌else◌}
pub use Rattle.case_arms.proofs.Values.{or_end}
pub use Rattle.case_arms.specs.Arms.{arms_with, item_body}
pub use Rattle.case_arms.specs.Naming.{IsOf}
pub use Rattle.elab_expr.proofs.Growing.{count, more_short, signals_kept}
pub use Rattle.elab_expr.specs.Evaluates.{Evaluates}
pub use Rattle.elab_expr.specs.Expressions.{refusals}
pub use Rattle.elab_expr.specs.Laid.{Laid, cell, index_bits, index_bits as at_cell, lay, reduced, showing}
pub use Rattle.elab_proc.proofs.StepLemmas.{item_is, labels_same}
pub use Rattle.elab_proc.specs.Refusals.{AllWithin, AreSized, LabelsWithin, case_faults, common_size, divisions, labels_in, step_refusals, wrong, zeros_at}
pub use Rattle.elab_proc.specs.Turns.{AlikeBut, GoesOn, Stops, loop_of, next_steps, next_value, turn_steps}
pub use Rattle.expr_plans.proofs.Indices.{index_narrow, index_wide}
pub use Rattle.expr_plans.specs.Made.{index_width, made}
pub use Rattle.mcy_base.specs.declared.span.Span.{Span}
pub use Rattle.net_builder.proofs.Handed.{same_err}
pub use Rattle.net_builder.proofs.Parts.{added_append, below_later, cell_computes, earlier_cell, fresh_below, grown_by, grown_nets, grows_again, grows_not, length_fresh, nets_le, runs_before}
pub use Rattle.net_builder.proofs.Parts.{store_same}
pub use Rattle.net_builder.specs.Building.{AllBelow, Building, Grows, HasSignals, IsSignal, RunsIn, fresh_bits, signal, store, with_cell, with_signal}
pub use Rattle.net_builder.specs.Refusals.{IsShort}
pub use Rattle.net_builder.specs.declared.error.ElabError.{ElabError}
pub use Rattle.netlist_core.specs.Cells.{cell_number, laid_at, some_one}
pub use Rattle.netlist_core.specs.Numbers.{digit, number}
pub use Rattle.netlist_core.specs.Runs.{Nets, bit_value, plain, ports_seen, values}
pub use Rattle.netlist_core.specs.declared.bit.Bit.{Bit}
pub use Rattle.netlist_core.specs.declared.bit.Bit.TheVariants.{Fixed, Net}
pub use Rattle.netlist_core.specs.declared.cell.CellKind.{CellKind}
pub use Rattle.netlist_core.specs.declared.cell.CellKind.TheVariants.{Eq, Lor, Mux, Put, Ror}
pub use Rattle.vlog_effects.proofs.Bools.{and-left, and-right, or-again, or-left, or-right}
pub use Rattle.vlog_effects.proofs.Variants.{steps-block, steps-case, steps-conditional, steps-loop}
pub use Rattle.vlog_effects.specs.Effects.{State, Update, Values, agree, arm_effect, bit_same, effect, holds, left_by, matches, numbers, part_updates, put, put_all, right_bits, settled, sized_bits}
pub use Rattle.vlog_effects.specs.Effects.{started, updated, updated_all, updates_of}
pub use Rattle.vlog_effects.specs.Expressions.{bits_of, constant_faults, constant_of, is_constant, is_signed_of, number as value_of, told, value, width_of}
pub use Rattle.vlog_effects.specs.Latches.{Target, arms_targets, part_targets, parts_targets, targets}
pub use Rattle.vlog_effects.specs.Laws.{item_steps}
pub use Rattle.vlog_effects.specs.LeftSides.{Bit as BitOf, Indexed, Part, Range, Select, Vector, Whole, bit_at, bits_from, concatenated, part_vector, part_width, parts_of, parts_width, places}
pub use Rattle.vlog_effects.specs.LeftSides.{select_base, select_width, width_by, written}
pub use Rattle.vlog_effects.specs.Steps.{Arm, Arms, Assign, Assigning, Case, Choose, Done, Flaw, InNames, Item, Loop, Otherwise, Refuse, Selection, Steps, Test, Turns, all_turns, assigning}
pub use Rattle.vlog_effects.specs.Steps.{case_steps, chosen_arms, default_of, done_by, dont_care, else_steps, flaws_of, followed, in_turn, item_of, labelled, loop_steps, looped, max_turns, name_alone}
pub use Rattle.vlog_effects.specs.Steps.{refused, selection_of, step_flaws, step_of, stepped, steps_of, tested, turns}
pub use Rattle.vlog_meaning.proofs.Blanks.{left_nil, right_nil, these_nil, those_nil}
pub use Rattle.vlog_meaning.proofs.Powers.{power_le}
pub use Rattle.vlog_meaning.specs.Integers.{bound_integer, extended, integer, is_negative}
pub use Rattle.vlog_meaning.specs.Scopes.{Names, Store, names_of, nothing, with_name}
pub use Rattle.vlog_meaning.specs.Senses.{IsContext, assigned, assigned as assigned_shape, constant_integer, fault, index_of, is_empty, or_else, own, sense}
pub use Rattle.vlog_meaning.specs.declared.fault.Fault.{Fault}
pub use Rattle.vlog_meaning.specs.declared.scope.Decl.{Decl}
pub use Rattle.vlog_meaning.specs.declared.scope.Decl.TheVariants.{Constant, Signal}
pub use Rattle.vlog_meaning.specs.declared.shapes.Shape.{Shape}
pub use Rattle.vlog_syntax.specs.Places.{first_token}
pub use Rattle.vlog_syntax.specs.declared.expr.Expr.{Expr}
pub use Rattle.vlog_syntax.specs.declared.identifier.Identifier.{Identifier}
pub use Rattle.vlog_syntax.specs.declared.left_side.LeftSide.{LeftSide, out-LeftSide}
pub use Rattle.vlog_syntax.specs.declared.left_side.LeftSide.TheViews.{the_lemmas, the_lemmas as left_lemmas}
pub use Rattle.vlog_syntax.specs.declared.stmt.Assignment.{Assignment}
pub use Rattle.vlog_syntax.specs.declared.stmt.CaseItem.{CaseItem, out-CaseItem}
pub use Rattle.vlog_syntax.specs.declared.stmt.CaseKind.{CaseKind}
pub use Rattle.vlog_syntax.specs.declared.stmt.Stmt.{Stmt, out-Stmt, roll-Stmt, roll-out-Stmt}
pub use Rattle.vlog_syntax.specs.declared.stmt.Stmt.TheFolds.{fold-roll-Stmt}
pub use Rattle.vlog_syntax.specs.declared.stmt.Stmt.TheVariants.{BlockingAssignment, Case as CaseOf, Conditional, For, NonblockingAssignment, Null, SeqBlock, rolls-BlockingAssignment, rolls-Case}
pub use Rattle.vlog_syntax.specs.declared.stmt.Stmt.TheVariants.{rolls-Conditional, rolls-For, rolls-NonblockingAssignment, rolls-Null, rolls-SeqBlock}
pub use Rattle.proc_muxes.specs.Builds.{AddsCell, Builds, BuildsArms, BuildsAssign, BuildsBit, BuildsEqual, BuildsIndex, BuildsIndices, BuildsLabel, BuildsMatch, BuildsMore, BuildsTest, Chooses}
pub use Rattle.proc_muxes.specs.Builds.{ChoosesAll, HasPlainBase, Index, IsLaid, PutsBits, PutsPart, PutsParts, Work, case_shape, choice_of, choices, distinct, distinct_after, held, kept, mattering}
pub use Rattle.proc_muxes.specs.Builds.{restored, stands, variable_index, with_held}
pub use Rattle.proc_muxes.specs.Cases.{AreReadyItems, Opened, Opens}
pub use Rattle.proc_muxes.specs.Clear.{AreClear, AreClearLabels, AreHeld, CanAssign, CanWrite, CanWriteAll, IsClear, IsClearLabel, IsReady}
pub use Rattle.proc_muxes.specs.Counts.{arms_cells, assign_cells, cells_of, equal_cells, index_cells, indices_cells, items_cells, label_cells, labels_cells, match_cells, pieces_cells, place_cells}
pub use Rattle.proc_muxes.specs.Counts.{put_cells, puts_cells}
pub use Rattle.proc_muxes.specs.Laws.{BuildingKeeps, BuildsTheEffect, ChangesFit, ChoicesFit, LaidByWhatWaits, LeavesTheEffect, WaitAlike}
pub use Rattle.proc_muxes.specs.Pieces.{AreFitPieces, AreHeldPieces, ArePieces, CanBePlaced, IsFitPiece, IsHeldPiece, IsPiece, IsPlace, IsPlaced, MakesPiece, MakesPieces, index_at, indices_of}
pub use Rattle.proc_muxes.specs.Pieces.{piece_target, piece_targets, sizes, vector_at}
pub use Rattle.proc_muxes.specs.Shows.{Adds, Conforms, Keeps, Known, Shows, StandsBelow}
pub use Rattle.proc_muxes.specs.Working.{AllChoicesFit, AllFit, AreBits, AreWide, Built, CanHave, FitsChange, FitsChoice, PutsAt, all_had, all_have, change_of, changes_of, chosen, given_back}
pub use Rattle.proc_muxes.specs.Working.{is_changed, joined, test_cells, work}
pub use Rattle.proc_muxes.specs.declared.change.Change.{Change}
pub use Rattle.proc_muxes.specs.declared.choice.Choice.{Choice}
pub use Rattle.proc_muxes.specs.declared.open_arms.OpenArm.{OpenArm}
pub use Rattle.proc_muxes.specs.declared.piece.Piece.{Piece}
pub use Rattle.proc_muxes.specs.declared.piece.Place.{Place}
pub use Rattle.proc_muxes.specs.declared.piece.Place.TheVariants.{At, From}
pub use Rattle.proc_muxes.specs.declared.statement.Turn.{Turn}
