-- What several files here take from the specs of this crate and from the crates below.
pub use Rattle.std.proofs.Common.{[], ◌&&◌, ◌*◌, ◌++◌, ◌+◌, ◌-◌, ◌<◌, ◌==◌, ◌∙◌, ◌∷◌, ◌≡◌, ◌≤◌, Bool, Err, IfOk, List, None, Ok, Option, Result, Some, ap, arith, drop, false, get_or, if◌then◌else◌}
pub use Rattle.std.proofs.Common.{length, map, not, refl, subst, suc, sym, take, true, true≢false, zero, ℕ}
pub use Rattle.std.proofs.lemmas.Bool.{and_from, ltb-true}
pub use Rattle.std.proofs.lemmas.List.{at_drop_all, at_drop_more, map-set, take_all}
pub use Rattle.std.proofs.lemmas.Result.{err_from_is_err_and}
pub use Rattle.std.specs.List.{prefix_len}
pub use Rattle.std.specs.Prelude.{⊤, bit_or, filter, find, is_none, nat_lt, slice_index, slice_set}
pub use Rattle.script_lines.specs.declared.row.Row.{Row}
pub use Rattle.tag_lines.specs.declared.expr.Expr.{Expr}
pub use Rattle.tag_lines.specs.declared.expr.Expr.TheFolds.{fold-roll-Expr, ind-Expr, map-Expr}
pub use Rattle.tag_lines.specs.declared.expr.Expr.TheOpen.{Expr-F}
pub use Rattle.tag_lines.specs.declared.expr.Expr.TheViews.{roll-Expr}
pub use Rattle.tag_lines.specs.declared.head.Head.{Head}
unfoldable pub use Rattle.tag_script.specs.Checks.{fitted, formed, line, named_fault, worded}
pub use Rattle.tag_script.specs.Checks.{Project, Reads, excess, expr_fault, is_further, is_indented_so, is_misplaced, is_past_limit, named, or_fault, project_of}
unfoldable pub use Rattle.tag_script.specs.Courses.{course_of, followed}
pub use Rattle.tag_script.specs.Courses.{Choice, Course, Doing, Standing, Valuing, arm_step, choice, chosen, decided, decides, doing, ended, expr_step, failed, in_turn, name_value, reads, start}
pub use Rattle.tag_script.specs.Courses.{statement_step, tag_bit, test_number, value_of}
pub use Rattle.tag_script.specs.Fits.{NeedsBelow, all_true, arm_fits, expr_fits, fit_arm, fit_expr, fit_statement, script_fits, statement_fits}
unfoldable pub use Rattle.tag_script.specs.Hearing.{heard, word_read}
pub use Rattle.tag_script.specs.Hearing.{ask_told, on_word, standing_of, word_by}
pub use Rattle.tag_script.specs.Values.{Datum, compared, datum_of, is_true, number, text, truth, word_text}
pub use Rattle.tag_script.specs.declared.checks.Known.{Known}
pub use Rattle.tag_script.specs.declared.checks.Place.{Place}
pub use Rattle.tag_script.specs.declared.draft.Block.{Block}
pub use Rattle.tag_script.specs.declared.evaluation.Stop.{Stop}
pub use Rattle.tag_script.specs.declared.script.Arm.{Arm}
pub use Rattle.tag_script.specs.declared.script.Script.{Script}
pub use Rattle.tag_script.specs.declared.script.ScriptError.{ScriptError}
pub use Rattle.tag_script.specs.declared.script.Statement.{Statement}
pub use Rattle.tag_script.specs.declared.script.Statement.TheFolds.{fold-roll-Arm, fold-roll-Statement, fold_out-Arm, ind-Statement, map-Statement}
