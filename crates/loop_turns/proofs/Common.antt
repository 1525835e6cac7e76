-- What several files here take from the specs of this crate and from the crates below.
pub use Rattle.std.proofs.Common.{[], ◌%◌, ◌*◌, ◌+◌, ◌-◌, ◌<◌, ◌^◌, ◌∙◌, ◌∷◌, ◌≡◌, ◌≤◌, Bool, List, add-one, ap, arith, drop, false, get_or, length, map, nat_eq, nat_le, nat_lt, not, refl, rules}
pub use Rattle.std.proofs.Common.{subst, suc, sym, true, zero, ℕ}
pub use Rattle.std.specs.Option.{option_map}
pub use Rattle.std.specs.Prelude.{IsSome, None, Option, Some, if◌then◌else◌}
pub use Rattle.elab_proc.proofs.TurnLemmas.{alike_after, constant_fails, constant_stands, faults_at, names_by_word, put_back, sized_after, some_after}
pub use Rattle.elab_proc.specs.Refusals.{AreSized, step_refusals}
pub use Rattle.elab_proc.specs.Turns.{AlikeBut, Stops, loop_of, next_steps, next_value}
pub use Rattle.mcy_base.specs.declared.word.Word.{Word}
pub use Rattle.vlog_meaning.specs.Answers.{const_error, least}
pub use Rattle.vlog_meaning.specs.Scopes.{Names, names_of, nothing, with_name}
pub use Rattle.vlog_meaning.specs.Senses.{assigned, sense}
pub use Rattle.vlog_meaning.specs.declared.fault.ConstError.{ConstError}
pub use Rattle.vlog_meaning.specs.declared.scope.Decl.{Decl}
pub use Rattle.vlog_meaning.specs.declared.scope.Decl.TheVariants.{Constant, Signal}
pub use Rattle.vlog_syntax.specs.declared.identifier.Identifier.{Identifier}
pub use Rattle.vlog_syntax.specs.declared.left_side.LeftSide.{LeftSide, out-LeftSide}
pub use Rattle.vlog_syntax.specs.declared.stmt.CaseItem.{CaseItem, out-CaseItem}
pub use Rattle.vlog_syntax.specs.declared.stmt.Stmt.TheViews.{size-Stmt, the_lemmas}
unfoldable pub use Rattle.loop_turns.specs.Counts.{turns}
pub use Rattle.loop_turns.specs.Counts.{Answers, Counted, IsLeft, IsTurn, all_turns, count_item, count_step, else_turns, item_turns, loop_turns, looped, next_count, summed, taken_count, tested}
pub use Rattle.loop_turns.specs.Counts.{turn_count, turns_of}
pub use Rattle.loop_turns.specs.declared.walk.Turn.TheVariants.{Ends, GoesOn, Passes}
