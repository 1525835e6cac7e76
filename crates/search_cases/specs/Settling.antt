-- When clauses settle a variable, from values of lesser ones on.
use Rattle.std.specs.Prelude.{◌≡◌, ◌≢◌, ℕ, ◌<◌, ◌⊎◌, Bool, List, ℤ, Some, None, All, Contains}
use Rattle.clause_store.specs.Clauses.{variable}
use Rattle.clause_store.specs.Propagation.{Known, IsUnit, IsFalsified, IsQuiet}

-- For proofs alone.

-- the second assignment has all values of the first
abbrev pub Extends : Known → Known → Type 0
Extends known more = (v : ℕ) (b : Bool) → known v ≡ Some b → more v ≡ Some b

-- However the lesser variables get their values beside these, some clause is unit or false while v is open.
abbrev pub IsSettled : List (List ℤ) → Known → ℕ → Type 0
IsSettled clauses start v = (known : Known) → Extends start known → ((w : ℕ) → 0 < w → w < v → known w ≢ None) → known v ≡ None → All (IsQuiet known) clauses → ⊥

-- a clause of the list is false, or unit by a literal of v
pub record HasStep (clauses : List (List ℤ)) (known : Known) (v : ℕ) : Type 0 where
  pub clause : List ℤ
  pub there : Contains clauses clause
  pub step : IsFalsified known clause ⊎ ((l : ℤ) × (variable l ≡ v) × IsUnit known clause l)
