-- What several files here take from the specs of this crate and from the crates below.
pub use Rattle.std.proofs.Common.{[], ◌%◌, ◌&&◌, ◌*◌, ◌++◌, ◌+◌, ◌-◌, ◌<◌, ◌^◌, ◌||◌, ◌∙◌, ◌∷◌, ◌≡◌, ◌≤◌, Bool, List, add-one, ap, append_assoc, arith, cond, drop, false, get_or, length, map, nat_eq}
pub use Rattle.std.proofs.Common.{not, refl, rules, subst, suc, sym, take, true, zero, ℕ}
pub use Rattle.std.proofs.lemmas.List.{append-nil}
pub use Rattle.std.proofs.lemmas.Result.{on_ok_weaker}
pub use Rattle.std.specs.List.{flat_map}
pub use Rattle.std.specs.Option.{option_map}
pub use Rattle.std.specs.Prelude.{IfSome, IsSome, None, Option, Some, if◌then◌else◌}
pub use Rattle.elab_proc.proofs.Lists.{flat_take, parts_take}
pub use Rattle.elab_proc.proofs.SideLemmas.{context_is}
pub use Rattle.elab_proc.specs.Order.{IsFirst}
pub use Rattle.elab_proc.specs.Refusals.{AreSized, body_in, case_faults, divisions, form_step, labels_in, own_faults, same_form, step_refusals, wrong}
pub use Rattle.elab_proc.specs.Turns.{AlikeBut, Stops, loop_of, next_steps, next_value, turn_steps}
pub use Rattle.elab_proc.specs.declared.refusal.Refusal.{Refusal}
pub use Rattle.mcy_base.specs.declared.span.Span.{Span}
pub use Rattle.mcy_base.specs.declared.word.Word.{Word}
pub use Rattle.signal_masks.proofs.Placing.{covers_both, or_end}
pub use Rattle.signal_masks.specs.Masks.{bits_in, has_bit}
pub use Rattle.signal_masks.specs.Parts.{AreFit, IsFitSelect, indices_read}
pub use Rattle.signal_masks.specs.declared.mask.Mask.{Mask}
pub use Rattle.vlog_effects.proofs.Bools.{or-again}
pub use Rattle.vlog_effects.proofs.Folds.{out-name, parts-bit, parts-concatenation, parts-indexed, parts-name, parts-range}
pub use Rattle.vlog_effects.proofs.Following.{followed-again, followed-done}
pub use Rattle.vlog_effects.specs.Expressions.{constant_faults, constant_of, reads, told, where_faultless, width_of}
pub use Rattle.vlog_effects.specs.Latches.{Target, all_missed, all_of, arms_covered, arms_early, arms_targets, covered, earlier, early, first_of, index_reads, is_latch, latch_of, latches, missed}
pub use Rattle.vlog_effects.specs.Latches.{part_targets, parts_cover, parts_missed, parts_targets, some_bit, targets}
pub use Rattle.vlog_effects.specs.Laws.{item_steps}
pub use Rattle.vlog_effects.specs.LeftSides.{Bit, Indexed, Part, Range, Select, Vector, Whole, concatenated, part_vector, parts_of, vector_of}
pub use Rattle.vlog_effects.specs.Steps.{Arm, Arms, Assign, Case, Choose, Const, Done, Flaw, InNames, Item, Loop, Otherwise, Refuse, Selection, Steps, Turns, all_turns, assigning, bodies_of}
pub use Rattle.vlog_effects.specs.Steps.{case_steps, chosen_arms, default_of, done_by, else_steps, flaws_of, followed, in_turn, item_of, labelled, labels_of, loop_steps, looped, max_turns, name_alone}
pub use Rattle.vlog_effects.specs.Steps.{name_flaw, refused, selection_of, step_flaws, step_of, stepped, steps_of, tested, turns}
pub use Rattle.vlog_meaning.proofs.Blanks.{left_nil, these_nil}
pub use Rattle.vlog_meaning.proofs.Firsts.{least_none}
pub use Rattle.vlog_meaning.proofs.Refusals.{kept, least_empty, passed}
unfoldable pub use Rattle.vlog_meaning.specs.Answers.{least}
pub use Rattle.vlog_meaning.specs.Answers.{const_error}
pub use Rattle.vlog_meaning.specs.Scopes.{Names, decl_shape, names_of, nothing, with_name}
pub use Rattle.vlog_meaning.specs.Senses.{Bits, IsWhole, Sense, assigned, constant_faults_at, either, fault, is_empty, no_bits, not_constant, or_else, sense}
pub use Rattle.vlog_meaning.specs.declared.fault.ConstError.{ConstError}
pub use Rattle.vlog_meaning.specs.declared.fault.Fault.{Fault}
pub use Rattle.vlog_meaning.specs.declared.scope.Decl.{Decl}
pub use Rattle.vlog_meaning.specs.declared.scope.Decl.TheVariants.{Constant, Signal}
pub use Rattle.vlog_meaning.specs.declared.shapes.Shape.{Shape}
pub use Rattle.vlog_syntax.specs.Places.{first_token, left_first, left_first_token}
pub use Rattle.vlog_syntax.specs.declared.expr.Expr.{Expr}
pub use Rattle.vlog_syntax.specs.declared.identifier.Identifier.{Identifier}
pub use Rattle.vlog_syntax.specs.declared.left_side.LeftSide.{LeftSide, out-LeftSide}
pub use Rattle.vlog_syntax.specs.declared.left_side.LeftSide.TheViews.{the_lemmas, the_lemmas as left_lemmas}
pub use Rattle.vlog_syntax.specs.declared.stmt.Assignment.{Assignment}
pub use Rattle.vlog_syntax.specs.declared.stmt.CaseItem.{CaseItem, out-CaseItem}
pub use Rattle.vlog_syntax.specs.declared.stmt.CaseKind.{CaseKind}
pub use Rattle.vlog_syntax.specs.declared.stmt.EventControl.{EventControl}
pub use Rattle.vlog_syntax.specs.declared.stmt.Stmt.{Stmt, roll-Stmt}
pub use Rattle.vlog_syntax.specs.declared.stmt.Stmt.TheFolds.{fold-roll-Stmt, fold_out-CaseItem, map-Stmt}
pub use Rattle.process_latches.specs.Latching.{first_latch, latch_in}
pub use Rattle.process_latches.specs.Marking.{Added, AreBlank, BitsAdded, IsPart, Marked, Met, PartsAdded, WriteAdded, all_sound_reads, name_writes, reads_by, sound_reads}
pub use Rattle.process_latches.specs.Mixed.{HasFirsts, first_place, lesser, mixed_at, mixed_refusals, same_kind}
pub use Rattle.process_latches.specs.Refused.{body_refusals, control_refusals, event_refusals, latch_refusal, latch_refusals}
pub use Rattle.process_latches.specs.Sound.{arms_stop, has_stop, is_stop, left_of, part_form, part_left, right_faults, sound, sound_arms, sound_expr, sound_left, sound_part, sound_right, sound_test}
pub use Rattle.process_latches.specs.Turning.{AlsoWrites, AreArms, Chosen, IsMarkedTurn, IsOwn, all_cover, items_write, last_steps, some_read, some_stop}
pub use Rattle.process_latches.specs.Writes.{arms_writes, part_writes, parts_writes, target_of, writes}
pub use Rattle.process_latches.specs.declared.marks.Marks.{Marks}
pub use Rattle.process_latches.specs.declared.marks.Write.{Write}
