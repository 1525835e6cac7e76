-- The formula of an expression that draws nothing.
use Rattle.std.specs.Prelude.{◌≡◌, ℕ, List, [], Option, Some, None}
use Rattle.rand_pcg.specs.Lcg.{Lcg}
use Rattle.vlog_syntax.specs.declared.expr.Expr.{Expr}
use Rattle.vlog_syntax.specs.declared.expr.Expr.TheVariants as v
use Rattle.vlog_syntax.specs.declared.identifier.Identifier.{Identifier}
use Rattle.vlog_meaning.specs.declared.function.Function.TheVariants.{Random}
use Rattle.vlog_meaning.specs.declared.shapes.Shape.{Shape}
use Rattle.vlog_meaning.specs.Functions.{function_of}
use Rattle.vlog_meaning.specs.Scopes.{Names, Store}
use Rattle.tb_values.specs.Values.{evaluated}
use Rattle.tb_formulas.specs.declared.formula.Formula.{Formula}
use Rattle.tb_formulas.specs.Formulas.{formula_value, FitsIn}
use Rattle.tb_formulas.specs.Signals.{HasSignals}

-- it can be evaluated with signals of these widths
abbrev pub FormulaFits : List ℕ → Formula → Type 0
FormulaFits widths f = (n : ℕ) × FitsIn widths f n

-- For proofs alone.

-- each evaluation of the expression at a width and sign has the formula's value, which has no more bits, and leaves the generator
-- as it is
pub record IsValueOf (names : Names) (x : Expr) (context : Shape) (f : Formula) : Type 0 where
  pub means : (phase : ℕ) (store : Store) (g : Lcg) → evaluated names phase x store context g ≡ (formula_value f store, g)
  pub fits : (widths : List ℕ) → HasSignals names widths → FitsIn widths f context.width

abbrev pub OfValue : Names → Expr → Shape → Option Formula → Type 0
OfValue names x context None = Unit {0}
OfValue names x context (Some f) = IsValueOf names x context f

-- `$random` alone
pub record IsRandom (x : Expr) : Type 0 where
  pub name : Identifier
  pub named : function_of name.name ≡ Some Random
  pub is : x ≡ v.SystemFunctionCall name []
