-- Scripts that name only the tests and tags of a project, of which there are so many.
use Rattle.std.specs.Prelude.{ℕ, ◌<◌, ⊤, Bool, true, ◌&&◌, map, nat_lt}
pub use Rattle.tag_lines.specs.Truths.{all_true}
use Rattle.tag_lines.specs.declared.expr.Expr.{Expr}
use Rattle.tag_lines.specs.declared.expr.Expr.TheOpen as e
use Rattle.tag_lines.specs.declared.expr.Expr.TheOpen.{Expr-F}
use Rattle.tag_lines.specs.declared.expr.Expr.TheFolds.{fold-Expr}
use Rattle.tag_script.specs.declared.answer.Ask.{Ask}
use Rattle.tag_script.specs.declared.answer.Ask.TheVariants as ask
use Rattle.tag_script.specs.declared.script.Arm.{Arm}
use Rattle.tag_script.specs.declared.script.Script.{Script}
use Rattle.tag_script.specs.declared.script.Statement.{Statement}
use Rattle.tag_script.specs.declared.script.Statement.TheOpen as s
use Rattle.tag_script.specs.declared.script.Statement.TheOpen.{Arm-F, Statement-F}
use Rattle.tag_script.specs.declared.script.Statement.TheFolds.{fold-Arm, fold-Statement}

abbrev pub fit_expr : ℕ → Expr-F Bool → Bool
fit_expr tests (e.Number n) = true
fit_expr tests (e.Text t) = true
fit_expr tests (e.Name place) = true
fit_expr tests (e.Word test) = nat_lt test tests
fit_expr tests (e.Not operand) = operand
fit_expr tests (e.Compare left operator right) = left && right
fit_expr tests (e.And operands) = all_true operands
fit_expr tests (e.Or operands) = all_true operands

-- an expression reads only the words of these tests
abbrev pub expr_fits : ℕ → Expr → Bool
expr_fits tests = fold-Expr Bool (fit_expr tests)

abbrev pub fit_statement : ℕ → ℕ → Statement-F Bool Bool → Bool
fit_statement tests tags (s.Assign place value) = expr_fits tests value
fit_statement tests tags (s.Tag tag) = nat_lt tag tags
fit_statement tests tags (s.Assert line condition) = expr_fits tests condition
fit_statement tests tags (s.If arms other) = all_true arms && all_true other

abbrev pub fit_arm : ℕ → Arm-F Bool Bool → Bool
fit_arm tests arm = expr_fits tests arm.condition && all_true arm.body

abbrev pub statement_fits : ℕ → ℕ → Statement → Bool
statement_fits tests tags = fold-Statement Bool Bool (fit_statement tests tags) (fit_arm tests)

-- a script names only these tests and tags
abbrev pub script_fits : ℕ → ℕ → Script → Bool
script_fits tests tags script = all_true (map (statement_fits tests tags) script.statements)

-- where the word of a test is needed, it is one of these tests
abbrev pub NeedsBelow : ℕ → Ask → Type 0
NeedsBelow tests (ask.Need test) = test < tests
NeedsBelow tests other = ⊤

-- For proofs alone.

abbrev pub arm_fits : ℕ → ℕ → Arm → Bool
arm_fits tests tags = fold-Arm Bool Bool (fit_statement tests tags) (fit_arm tests)
