-- What the steps of the checker find.
use Rattle.std.specs.Prelude.{◌≡◌, ℕ, ◌+◌, true, List, take, drop, ℤ, Some, All, slice_get, ⊤}
use Rattle.lrat_checker.specs.declared.partial.Step.{Step}
use Rattle.lrat_checker.specs.declared.partial.Step.TheVariants.{Falsified, Unit, Other}
use Rattle.lrat_checker.specs.declared.refusal.CheckError.{CheckError}
use Rattle.lrat_checker.specs.declared.refusal.CheckError.TheVariants.{BadLiteral, BadHint, NotUnit, NoConflict, Memory}
use Rattle.clause_store.specs.Propagation.{Known, literal, is_some_false, IsUnit, IsFalsified}
use Rattle.lrat_checker.specs.Refusals.{IsBadLiteral, IsBadHint, IsNotUnit, IsWithoutConflict}

-- what a clause is
abbrev pub IsStep : Known → List ℤ → Step → Type 0
IsStep known clause Falsified = IsFalsified known clause
IsStep known clause (Unit l) = IsUnit known clause l
IsStep known clause Other = (IsFalsified known clause → ⊥) × ((l : ℤ) → IsUnit known clause l → ⊥)

-- For proofs alone.

-- why a lemma's literals are not placed
abbrev pub IsPlacing : ℕ → List ℤ → CheckError → Type 0
IsPlacing free lemma (BadLiteral i) = IsBadLiteral free lemma i
IsPlacing free lemma Memory = ⊤
IsPlacing free lemma other = ⊥

abbrev pub IsFalse : Known → ℤ → Type 0
IsFalse known l = is_some_false (literal known l) ≡ true

-- n is the least number above `clauses` of a clause whose literals are all false
pub record IsFirstFalsified (known : Known) (store : List (List ℤ)) (clauses n : ℕ) : Type 0 where
  pub place : ℕ
  pub number : n ≡ clauses + place + 1
  pub earlier : List ℤ
  pub there : slice_get (drop clauses store) place ≡ Some earlier
  pub falsified : All (IsFalse known) earlier
  pub least : All (λ before. All (IsFalse known) before → ⊥) (take place (drop clauses store))

-- why hints are refused, from this assignment on
abbrev pub IsFollowing : List (List ℤ) → Known → List ℕ → CheckError → Type 0
IsFollowing clauses start hints (BadHint i) = IsBadHint clauses start hints i
IsFollowing clauses start hints (NotUnit i) = IsNotUnit clauses start hints i
IsFollowing clauses start hints NoConflict = IsWithoutConflict clauses start hints
IsFollowing clauses start hints Memory = ⊤
IsFollowing clauses start hints other = ⊥
