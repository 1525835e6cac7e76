-- What several files here take from the specs of this crate and from the crates below.
pub use Rattle.std.proofs.Common.{[], ◌%◌, ◌&&◌, ◌*◌, ◌++◌, ◌+ℤ◌, ◌+◌, ◌/◌, ◌<◌, ◌^◌, ◌||◌, ◌∙◌, ◌∷◌, ◌≡◌, ◌≤◌, ◌⊎◌, Bool, List, None, Option, Some, ap, arith, drop, ext_get_or, false, get_or, inl}
pub use Rattle.std.proofs.Common.{inr, length, map, max, nat_eq, nat_le, nat_lt, not, pos, refl, rules, set, subst, suc, sym, take, true, zero, ℕ, ℤ}
pub use Rattle.std.proofs.Math.Nat.{mod-lt, pow-succ'}
pub use Rattle.std.proofs.lemmas.Bool.{eqb-true, le-leb, lt-ltb, or_left, or_right}
pub use Rattle.std.proofs.lemmas.Bool.Decides.{eqb_tells, leb_tells}
pub use Rattle.std.proofs.lemmas.Nat.{or_lt, pow_pos, xor_lt}
pub use Rattle.std.specs.Prelude.{if◌then◌else◌}
pub use Rattle.std.specs.Str.{bytes_eq}
pub use Rattle.mcy_base.specs.declared.span.Span.{Span}
pub use Rattle.mcy_base.specs.declared.word.Word.{Word}
pub use Rattle.vlog_meaning.proofs.Contexts.{are_paired, binary_fits, branch_fits, low_bits_fit, pair_fits, unary_fits, wider, window_fits}
pub use Rattle.vlog_meaning.proofs.Steps.{sense_binary, sense_bit_select, sense_name, sense_number, sense_part_select, sense_unary}
pub use Rattle.vlog_meaning.specs.Integers.{clog2, clog2_from, extended, integer, natural}
pub use Rattle.vlog_meaning.specs.Operators.{binary_value, bit, is_reduction, left_context, operand_context, pair_shape, result_width, right_context, sizing, unary_shape, unary_value}
pub use Rattle.vlog_meaning.specs.Scopes.{AreWithin, IsWithin, Names, Store, decl_shape, decl_value, nothing}
pub use Rattle.vlog_meaning.specs.Senses.{Bits, IsWhole, Sense, all_faults, binary_step, call_faults, call_shape, call_value, constant_integer, either, is_empty, joined, name_faults, no_bits, own}
pub use Rattle.vlog_meaning.specs.Senses.{repeated, sense, senses, step, taken, total_width}
pub use Rattle.vlog_meaning.specs.declared.operator.Sizing.{Sizing}
pub use Rattle.vlog_meaning.specs.declared.operator.Sizing.TheVariants.{Apart, Common, Compared, Left}
pub use Rattle.vlog_meaning.specs.declared.scope.Decl.{Decl}
pub use Rattle.vlog_meaning.specs.declared.scope.Decl.TheVariants.{Constant, Signal}
pub use Rattle.vlog_meaning.specs.declared.shapes.Shape.{Shape}
pub use Rattle.vlog_syntax.specs.declared.expr.Expr.{Expr}
pub use Rattle.vlog_syntax.specs.declared.expr.Expr.TheFolds.{fold-roll-Expr, ind-Expr, map-Expr}
pub use Rattle.vlog_syntax.specs.declared.expr.Expr.TheOpen.{Expr-F}
pub use Rattle.vlog_syntax.specs.declared.expr.Expr.TheViews.{roll-Expr}
pub use Rattle.vlog_syntax.specs.declared.identifier.Identifier.{Identifier}
pub use Rattle.vlog_syntax.specs.declared.left_side.LeftSide.{LeftSide, out-LeftSide}
pub use Rattle.vlog_syntax.specs.declared.operator.BinaryOperator.{BinaryOperator}
pub use Rattle.vlog_syntax.specs.declared.operator.UnaryOperator.{UnaryOperator}
pub use Rattle.vlog_syntax.specs.declared.stmt.Assignment.{Assignment}
pub use Rattle.vlog_syntax.specs.declared.stmt.CaseItem.{CaseItem, roll-CaseItem}
pub use Rattle.vlog_syntax.specs.declared.stmt.CaseKind.{CaseKind}
pub use Rattle.vlog_syntax.specs.declared.stmt.Stmt.{Stmt}
pub use Rattle.vlog_syntax.specs.declared.stmt.Stmt.TheFolds.{fold-roll-CaseItem, fold-roll-Stmt, ind-Stmt, map-Stmt}
pub use Rattle.vlog_syntax.specs.declared.stmt.Stmt.TheOpen.{CaseItem-F, Stmt-F}
pub use Rattle.vlog_effects.specs.Effects.{AreBlocking, HasWidth, HaveWidths, IsBlocking, State, Update, Values, agree, arm_effect, assigned, bit_same, effect, holds, left_by, matches, numbers}
pub use Rattle.vlog_effects.specs.Effects.{part_updates, put, put_all, right_bits, settled, sized_bits, started, updated, updated_all, updates_of}
pub use Rattle.vlog_effects.specs.Examples.{LoopReverses, a, b, condition, i, k, named, names, place, results_of, reversal, start, turn, w, y}
pub use Rattle.vlog_effects.specs.Expressions.{bits_of, bound_of, constant_faults, constant_of, is_constant, is_signed_of, number, reads, value, width_of}
pub use Rattle.vlog_effects.specs.Latches.{Target, all_missed, all_of, arms_covered, arms_early, arms_targets, covered, earlier, early, first_of, index_reads, is_assigned, is_fixed, is_latch, latches}
pub use Rattle.vlog_effects.specs.Latches.{missed, part_covers, part_targets, parts_cover, parts_missed, parts_targets, some_bit, stands_in, targets}
pub use Rattle.vlog_effects.specs.Laws.{AssignmentsRun, BlocksRun, ChangesOnlyTargets, ConditionalsRun, EffectsFollow, HoldsValue, LastItemServes, LeavesOne, OthersStay, VariableIsConstant}
pub use Rattle.vlog_effects.specs.Laws.{item_steps}
pub use Rattle.vlog_effects.specs.LeftSides.{Bit, Indexed, Part, Range, Select, Vector, Whole, bits_from, concatenated, part_vector, part_width, parts_of, parts_step, parts_width, places, select_base}
pub use Rattle.vlog_effects.specs.LeftSides.{select_width, vector_of, width_by, written}
pub use Rattle.vlog_effects.specs.Selectors.{is_bitwise, is_test, keeps_step, keeps_width}
unfoldable pub use Rattle.vlog_effects.specs.Steps.{turns}
pub use Rattle.vlog_effects.specs.Steps.{Arm, Arms, Assign, Assigning, Case, Choose, Done, Flaw, InNames, Item, Loop, Otherwise, Refuse, Selection, Steps, Turns, all_named, all_signed, all_turns}
pub use Rattle.vlog_effects.specs.Steps.{always, arms_of, assigning, bodies_of, case_steps, chosen_arms, default_of, done_by, dont_care, else_steps, flaws_of, followed, front, greatest, ignored}
pub use Rattle.vlog_effects.specs.Steps.{ignored_step, in_turn, is_named, item_of, labelled, labels_of, last_body, loop_steps, looped, max_turns, name_alone, names_all, refused, selection_of}
pub use Rattle.vlog_effects.specs.Steps.{selector_bits, step_flaws, step_of, stepped, steps_of, tested, tested_word, turn_names, with_word, word_of}
