-- Clauses that the values of free bits settle by propagation.
use Rattle.std.specs.Prelude.{◌≡◌, ◌≢◌, ℕ, ◌<◌, ◌≤◌, ◌^◌, List, length, sum_by, ℤ, None, All}
use Rattle.clause_store.specs.Clauses.{AreOver}
use Rattle.clause_store.specs.Propagation.{Known, IsQuiet}

-- For proofs alone.

-- Where all lesser variables have values, a variable that is no free bit has one too, or some clause is unit or false.
abbrev pub Settles : List (List ℤ) → ℕ → ℕ → Type 0
Settles clauses variables free = (known : Known) (v : ℕ) → free < v → v ≤ variables → ((w : ℕ) → 0 < w → w < v → known w ≢ None) → known v ≡ None → All (IsQuiet known) clauses → ⊥

-- clauses over so many variables, of which the free bits come first and settle the others, within the limits
pub record IsMiter (clauses : List (List ℤ)) (variables free : ℕ) : Type 0 where
  pub over : AreOver variables clauses
  pub free_within : free ≤ variables
  pub few_free : free ≤ 2048
  pub few_variables : variables < 2 ^ 25
  pub few_clauses : length clauses < 2 ^ 25
  pub few_literals : sum_by length clauses < 2 ^ 25
  pub settles : Settles clauses variables free
