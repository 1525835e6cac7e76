-- The values of a report's expressions for counts of tags, or what ends the report in place of one.
use Rattle.std.specs.Prelude.{ℕ, ◌^◌, Bool, true, false, not, List, [], ◌∷◌, Result, Ok, Err, slice_index, if◌then◌else◌}
use Rattle.report_lines.specs.declared.expr.Expr.{Expr}
use Rattle.report_lines.specs.declared.expr.Expr.TheOpen as e
use Rattle.report_lines.specs.declared.expr.Expr.TheOpen.{Expr-F, Term-F}
use Rattle.report_lines.specs.declared.expr.Expr.TheFolds.{fold-Expr, fold-Term}
use Rattle.report_lines.specs.declared.expr.Operator.{Operator}
use Rattle.report_lines.specs.declared.expr.Operator.TheVariants as op
use Rattle.report_lines.specs.declared.expr.Term.{Term}
use Rattle.report_values.specs.declared.fraction.Fault.{Fault}
use Rattle.report_values.specs.declared.fraction.Fraction.{Fraction}
use Rattle.report_values.specs.Fractions.{difference, is_equal, is_less, is_true, lowest, product, quotient, sum, truth, whole}

abbrev pub on : {A B : Type 0} → Result A Fault → (A → Result B Fault) → Result B Fault
on (Ok a) next = next a
on (Err fault) next = Err fault

abbrev pub Valuing : Type 0
Valuing = List ℕ → Result Fraction Fault

-- the left operand decides
abbrev pub decides : Operator → Fraction → Bool
decides op.Or left = is_true left
decides op.And left = not (is_true left)
decides operator left = false

-- what an operator makes of two values
abbrev pub done : Operator → Fraction → Fraction → Result Fraction Fault
done op.Or left right = Ok right
done op.And left right = Ok right
done op.Equal left right = Ok (truth (is_equal left right))
done op.NotEqual left right = Ok (truth (not (is_equal left right)))
done op.Less left right = Ok (truth (is_less left right))
done op.LessEqual left right = Ok (truth (not (is_less right left)))
done op.Greater left right = Ok (truth (is_less right left))
done op.GreaterEqual left right = Ok (truth (not (is_less left right)))
done op.Plus left right = sum left right
done op.Minus left right = difference left right
done op.Times left right = product left right
done op.Over left right = quotient left right

-- an operator that waits for its left operand
pub record Pending : Type 0 where
  pub operator : Operator
  pub operand : Valuing

-- the right operand is evaluated where the left one does not decide
abbrev pub applied : Pending → Fraction → Valuing
applied t left counts = if decides t.operator left then Ok left else on (t.operand counts) (done t.operator left)

-- from left to right
abbrev pub chained : List Pending → Fraction → Valuing
chained [] value counts = Ok value
chained (t ∷ more) value counts = on (applied t value counts) (λ next. chained more next counts)

-- the count of a tag; a tag without one, which no report names that was taken, has 0
abbrev pub count_of : List ℕ → ℕ → ℕ
count_of counts tag = slice_index counts tag

abbrev pub expr_step : Expr-F Valuing Pending → Valuing
expr_step (e.Number millionths) counts = lowest false millionths (10 ^ 6)
expr_step (e.Count tag) counts = Ok (whole (count_of counts tag))
expr_step (e.Not operand) counts = on (operand counts) (λ value. Ok (truth (not (is_true value))))
expr_step (e.Chain first terms) counts = on (first counts) (λ value. chained terms value counts)

abbrev pub term_step : Term-F Valuing Pending → Pending
term_step t = record { operator = t.operator; operand = t.operand }

abbrev pub value_of : Expr → Valuing
value_of = fold-Expr Valuing Pending expr_step term_step

-- For proofs alone.

abbrev pub pending : Term → Pending
pending = fold-Term Valuing Pending expr_step term_step
