-- Formulas of values that depend on signals.
use Rattle.std.specs.Prelude.{◌≡◌, ℕ}
use Rattle.vlog_meaning.specs.Scopes.{Names, Store}
use Rattle.tb_formulas.specs.declared.formula.Formula.{Formula}
use Rattle.tb_formulas.specs.Formulas.{formula_value, Serves}

-- For proofs alone.

-- it has this value, and so many bits
pub record Makes (names : Names) (value : Store → ℕ) (n : ℕ) (f : Formula) : Type 0 where
  pub means : (store : Store) → formula_value f store ≡ value store
  pub fits : Serves names f n
