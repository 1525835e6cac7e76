-- What several files here take from the specs of this crate and from the crates below.
pub use Rattle.std.proofs.Common.{[], ◌&&◌, ◌*◌, ◌++◌, ◌+◌, ◌-◌, ◌<◌, ◌==◌, ◌∙◌, ◌∷◌, ◌≡◌, ◌≤◌, Bool, Err, IfOk, List, None, Ok, Option, Result, Some, ap, append-nil, append_assoc, arith, drop, false}
pub use Rattle.std.proofs.Common.{get_or, if◌then◌else◌, length, map, refl, subst, suc, sym, take, true, true≢false, zero, ℕ}
pub use Rattle.report_lines.specs.declared.expr.Expr.{Expr}
pub use Rattle.report_lines.specs.declared.format.Format.{Format}
pub use Rattle.report_lines.specs.declared.head.Head.{Head}
pub use Rattle.report_values.specs.Fractions.{IsSmall, is_true}
pub use Rattle.script_lines.specs.declared.row.Row.{Row}
unfoldable pub use Rattle.tag_script.specs.Blocks.{parts_of}
pub use Rattle.tag_script.specs.Blocks.{Part, and_then, body_len}
pub use Rattle.tag_script.specs.declared.script.ScriptError.{ScriptError}
unfoldable pub use Rattle.report_script.specs.Blocks.{block_by, block_in, body_in, joined, no_body, with_part, with_parts}
pub use Rattle.report_script.specs.Blocks.{Reader, arm_of, closed, inner_indent, is_open, new_draft}
unfoldable pub use Rattle.report_script.specs.Checks.{fitted, formed, line, worded}
pub use Rattle.report_script.specs.Checks.{Project, is_misplaced, project_of}
unfoldable pub use Rattle.report_script.specs.Texts.{line_text}
pub use Rattle.report_script.specs.Texts.{Choice, Printed, Printing, after, arm_step, by_value, choice, chosen, doing, extended, followed, format_text, in_turn, left_behind, line_printed}
pub use Rattle.report_script.specs.Texts.{statement_step, stopped_at}
pub use Rattle.report_script.specs.declared.checks.Place.{Place}
pub use Rattle.report_script.specs.declared.draft.Draft.{Draft}
pub use Rattle.report_script.specs.declared.report.Arm.{Arm}
pub use Rattle.report_script.specs.declared.report.Statement.{Statement}
pub use Rattle.report_script.specs.declared.report.Statement.TheFolds.{fold-roll-Statement, fold_out-Arm}
