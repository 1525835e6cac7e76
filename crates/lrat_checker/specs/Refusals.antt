-- Why a lemma is refused, and where.
use Rattle.std.specs.Prelude.{◌≡◌, ℕ, ◌+◌, ◌<◌, List, ◌++◌, length, take, ℤ, Some, None, slice_get}
use Rattle.lrat_checker.specs.declared.refusal.CheckError.{CheckError}
use Rattle.lrat_checker.specs.declared.refusal.CheckError.TheVariants.{BadLiteral, Contained, BadHint, NotUnit, NoConflict, Memory}
use Rattle.clause_store.specs.Propagation.{Known, none, with_false, IsUnit, IsFalsified, clause_at, Propagates}
use Rattle.lrat_checker.specs.LegalLogs.{AreFree, IsWithin, IsNew, Log}

-- the literals before place i are as a lemma's should be, and with the one there they aren't
pub record IsBadLiteral (free : ℕ) (lemma : List ℤ) (i : ℕ) : Type 0 where
  pub within : i < length lemma
  pub before : AreFree free (take i lemma)
  pub bad : AreFree free (take (i + 1) lemma) → ⊥

-- n is the least number of an earlier lemma that is contained in this one
pub record IsContained (clauses lemmas : List (List ℤ)) (lemma : List ℤ) (n : ℕ) : Type 0 where
  pub place : ℕ
  pub number : n ≡ length clauses + place + 1
  pub earlier : List ℤ
  pub there : slice_get lemmas place ≡ Some earlier
  pub contained : IsWithin earlier lemma
  pub least : IsNew (take place lemmas) lemma

-- the hints before place i were unit one after the other, and lead to this assignment
pub record Reaches (clauses : List (List ℤ)) (start : Known) (hints : List ℕ) (i hint : ℕ) (known : Known) : Type 0 where
  pub there : slice_get hints i ≡ Some hint
  pub propagates : Propagates clauses start (take i hints) known

-- hint i names no clause
pub record IsBadHint (clauses : List (List ℤ)) (start : Known) (hints : List ℕ) (i : ℕ) : Type 0 where
  pub hint : ℕ
  pub known : Known
  pub reaches : Reaches clauses start hints i hint known
  pub names_none : clause_at clauses hint ≡ None

-- the clause of hint i isn't unit there; at the last hint it isn't false either
pub record IsNotUnit (clauses : List (List ℤ)) (start : Known) (hints : List ℕ) (i : ℕ) : Type 0 where
  pub hint : ℕ
  pub known : Known
  pub reaches : Reaches clauses start hints i hint known
  pub clause : List ℤ
  pub there : clause_at clauses hint ≡ Some clause
  pub not_unit : (l : ℤ) → IsUnit known clause l → ⊥
  pub not_false : IsFalsified known clause → i + 1 < length hints

-- all hints were unit, or there are none
pub record IsWithoutConflict (clauses : List (List ℤ)) (start : Known) (hints : List ℕ) : Type 0 where
  pub known : Known
  pub propagates : Propagates clauses start hints known

-- the lemma is over free bits, and contains no earlier one
pub record IsFit (log : Log) (lemma : List ℤ) : Type 0 where
  pub over_free : AreFree log.free lemma
  pub new : IsNew log.lemmas lemma

-- why the checker refuses the lemma with these hints
abbrev pub IsRefused : Log → List ℤ → List ℕ → CheckError → Type 0
IsRefused log lemma hints (BadLiteral i) = IsBadLiteral log.free lemma i
IsRefused log lemma hints (Contained n) = AreFree log.free lemma × IsContained log.clauses log.lemmas lemma n
IsRefused log lemma hints (BadHint i) = IsFit log lemma × IsBadHint (log.clauses ++ log.lemmas) (with_false none lemma) hints i
IsRefused log lemma hints (NotUnit i) = IsFit log lemma × IsNotUnit (log.clauses ++ log.lemmas) (with_false none lemma) hints i
IsRefused log lemma hints NoConflict = IsFit log lemma × IsWithoutConflict (log.clauses ++ log.lemmas) (with_false none lemma) hints
IsRefused log lemma hints Memory = Unit {0}
