-- Expressions and lines that name only tags of the project, of which there are so many.
use Rattle.std.specs.Prelude.{ℕ, Bool, true, ◌&&◌, nat_lt}
use Rattle.std.specs.List.{list_all}
pub use Rattle.tag_lines.specs.Truths.{all_true}
use Rattle.report_lines.specs.declared.expr.Expr.{Expr}
use Rattle.report_lines.specs.declared.expr.Expr.TheOpen as e
use Rattle.report_lines.specs.declared.expr.Expr.TheOpen.{Expr-F, Term-F}
use Rattle.report_lines.specs.declared.expr.Expr.TheFolds.{fold-Expr, fold-Term}
use Rattle.report_lines.specs.declared.expr.Term.{Term}
use Rattle.report_lines.specs.declared.head.Head.{Head}
use Rattle.report_lines.specs.declared.head.Head.TheVariants as head

abbrev pub expr_step : ℕ → Expr-F Bool Bool → Bool
expr_step tags (e.Number n) = true
expr_step tags (e.Count tag) = nat_lt tag tags
expr_step tags (e.Not operand) = operand
expr_step tags (e.Chain first terms) = first && all_true terms

abbrev pub term_step : Term-F Bool Bool → Bool
term_step t = t.operand

abbrev pub expr_fits : ℕ → Expr → Bool
expr_fits tags = fold-Expr Bool Bool (expr_step tags) term_step

abbrev pub head_fits : ℕ → Head → Bool
head_fits tags (head.Print formats values) = list_all (expr_fits tags) values
head_fits tags (head.If condition) = expr_fits tags condition
head_fits tags (head.Elif condition) = expr_fits tags condition
head_fits tags other = true

-- For proofs alone.

abbrev pub term_fits : ℕ → Term → Bool
term_fits tags = fold-Term Bool Bool (expr_step tags) term_step
