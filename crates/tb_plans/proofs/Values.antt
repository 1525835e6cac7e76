-- Formulas of expressions that draw nothing.
use Rattle.tb_plans.proofs.Common.{◌≡◌, ℕ, false, List, ap, sym, Option, Some, None, not, ◌==◌, Lcg, Expr, Shape, Names, Store, sense, Formula, formula_value, FitsIn, OfCondition, IsValueOf, OfValue}
use Rattle.tb_values.specs.Draws.{changes}
use Rattle.tb_values.proofs.Evaluating.{same_value}
use Rattle.tb_formulas.specs.Signals.{HasSignals}

pub still_value : (names : Names) (x : Expr) (context : Shape) (f : Formula) → changes x ≡ false → ((store : Store) → formula_value f store ≡ (sense names x).value store context) → ((widths : List ℕ) → HasSignals names widths → FitsIn widths f context.width) → IsValueOf names x context f
still_value names x context f quiet is fits = record {
  means = λ phase store g. sym (same_value names phase x g context store (formula_value f store) quiet (is store));
  fits = fits;
}

pub condition_value : (names : Names) (x : Expr) (f : Option Formula) → OfValue names x (sense names x).shape f → OfCondition names x f
condition_value names x None is = tt
condition_value names x (Some f) is = record {
  means = λ phase store g. ap (λ (p : ℕ × Lcg). (not (p.0 == 0), p.1)) (is.means phase store g);
  fits = λ widths has. ((sense names x).shape.width, is.fits widths has);
}
