-- What several files here take from the specs of this crate and from the crates below.
pub use Rattle.std.proofs.Common.{[], ◌%◌, ◌*◌, ◌++◌, ◌+◌, ◌-◌, ◌<◌, ◌^◌, ◌||◌, ◌∙◌, ◌∷◌, ◌≡◌, ◌≤◌, Bool, List, add-one, ap, append_assoc, arith, drop, false, get_or, length, map, nat_eq, nat_le}
pub use Rattle.std.proofs.Common.{nat_lt, refl, rules, subst, suc, sym, take, true, zero, ℕ}
pub use Rattle.std.proofs.lemmas.Grind.{flat_map-append}
pub use Rattle.std.proofs.lemmas.List.{append-nil}
pub use Rattle.std.specs.List.{flat_map}
pub use Rattle.std.specs.Option.{option_map}
pub use Rattle.std.specs.Prelude.{IsSome, None, Option, Some, if◌then◌else◌, not}
pub use Rattle.mcy_base.specs.declared.span.Span.{Span}
pub use Rattle.mcy_base.specs.declared.word.Word.{Word}
pub use Rattle.vlog_effects.specs.Expressions.{constant_faults, constant_of, told, where_faultless}
pub use Rattle.vlog_effects.specs.Laws.{item_steps}
pub use Rattle.vlog_effects.specs.LeftSides.{Part, concatenated, parts_of}
unfoldable pub use Rattle.vlog_effects.specs.Steps.{turns}
pub use Rattle.vlog_effects.specs.Steps.{Arm, Assign, Case, Choose, Const, Done, Flaw, InNames, Item, Loop, Otherwise, Refuse, Selection, Steps, Turns, all_turns, always, arms_of, bodies_of}
pub use Rattle.vlog_effects.specs.Steps.{case_steps, chosen_arms, default_of, done_by, dont_care, else_steps, flaws_of, followed, front, greatest, in_turn, item_of, labelled, labels_of, last_body}
pub use Rattle.vlog_effects.specs.Steps.{loop_steps, looped, max_turns, name_alone, names_all, refused, selection_of, step_flaws, step_of, stepped, steps_of, tested, tested_word, turn_names}
pub use Rattle.vlog_effects.specs.Steps.{with_word, word_of}
pub use Rattle.vlog_meaning.proofs.Blanks.{left_nil, right_nil, these_nil}
pub use Rattle.vlog_meaning.proofs.Firsts.{least_none}
unfoldable pub use Rattle.vlog_meaning.specs.Answers.{least}
pub use Rattle.vlog_meaning.specs.Answers.{const_error}
pub use Rattle.vlog_meaning.specs.Scopes.{Names, decl_shape, names_of, nothing, with_name}
pub use Rattle.vlog_meaning.specs.Senses.{IsWhole, assigned, constant_faults_at, is_empty, sense}
pub use Rattle.vlog_meaning.specs.declared.fault.ConstError.{ConstError}
pub use Rattle.vlog_meaning.specs.declared.fault.Fault.{Fault}
pub use Rattle.vlog_meaning.specs.declared.scope.Decl.{Decl}
pub use Rattle.vlog_meaning.specs.declared.scope.Decl.TheVariants.{Constant, Signal}
pub use Rattle.vlog_syntax.specs.declared.expr.Expr.{Expr, out-Expr, out-roll-Expr}
pub use Rattle.vlog_syntax.specs.declared.identifier.Identifier.{Identifier}
pub use Rattle.vlog_syntax.specs.declared.left_side.LeftSide.{LeftSide, out-LeftSide, roll-LeftSide, roll-out-LeftSide}
pub use Rattle.vlog_syntax.specs.declared.stmt.Assignment.{Assignment}
pub use Rattle.vlog_syntax.specs.declared.stmt.CaseItem.{CaseItem, out-CaseItem}
pub use Rattle.vlog_syntax.specs.declared.stmt.CaseKind.{CaseKind}
pub use Rattle.vlog_syntax.specs.declared.stmt.Stmt.{Stmt}
pub use Rattle.vlog_syntax.specs.declared.stmt.Stmt.TheViews.{size-Stmt, the_lemmas}
pub use Rattle.elab_proc.specs.Laws.{FirstIsOne, LeftSideIsOne}
pub use Rattle.elab_proc.specs.Order.{IsFirst, place}
pub use Rattle.elab_proc.specs.Refusals.{AreSized, arm_refusals, assign_refusals, body_in, case_faults, case_refusals, common_size, const_refusal, flaw_refusal, form_step, kind_refusals, labels_in}
pub use Rattle.elab_proc.specs.Refusals.{not_supported, own_faults, part_refusals, same_form, sides_faults, step_refusals, wrong}
pub use Rattle.elab_proc.specs.Turns.{AlikeBut, IsTurn, Splits, Stops, flaw_among, loop_of, next_steps, next_value, turn_steps}
pub use Rattle.elab_proc.specs.declared.refusal.Refusal.{Refusal}
pub use Rattle.elab_proc.specs.declared.refusal.Refusal.TheVariants.{LoopTurns, Wrong}
