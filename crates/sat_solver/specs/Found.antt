-- What a search found.
use Rattle.std.specs.Prelude.{◌≡◌, ◌≢◌, ℕ, ◌<◌, ◌≤◌, Bool, false, List, ◌++◌, length, ℤ, Option, Some, None, All, slice_index_or}
use Rattle.clause_store.specs.Clauses.{Values, IsModel}
use Rattle.clause_store.specs.Propagation.{Known}
use Rattle.lrat_checker.specs.LegalLogs.{Log, EndsEmpty}
use Rattle.sat_solver.specs.declared.found.Found.{Found}
use Rattle.sat_solver.specs.declared.found.Found.TheVariants.{Model, Refuted, Spent}

-- the values in a list by variable
abbrev pub listed_values : List Bool → Values
listed_values values = λ v. slice_index_or values v false

-- a search: its log, and how many lemmas it may have
pub record Hunt : Type 0 where
  pub log : Log
  pub limit : ℕ

-- there are fewer lemmas than the limit says, and none is empty
pub record IsRunning (hunt : Hunt) : Type 0 where
  pub fewer : length hunt.log.lemmas < hunt.limit
  pub none_empty : All (λ lemma. 0 < length lemma) hunt.log.lemmas

-- What is found: a model of the clauses, and then the search can go on; a refutation; or a log of as many lemmas as the limit says, none empty.
abbrev pub Finds : Hunt → Found → Type 0
Finds hunt (Model assignment) = IsModel (listed_values assignment) hunt.log.clauses × IsRunning hunt
Finds hunt Refuted = EndsEmpty hunt.log.lemmas
Finds hunt Spent = (length hunt.log.lemmas ≡ hunt.limit) × All (λ lemma. 0 < length lemma) hunt.log.lemmas

-- so many lemmas were added at most, and nothing else has changed
pub record IsContinued (old new : Hunt) (most : ℕ) : Type 0 where
  pub clauses : new.log.clauses ≡ old.log.clauses
  pub variables : new.log.variables ≡ old.log.variables
  pub free : new.log.free ≡ old.log.free
  pub limit : new.limit ≡ old.limit
  pub more : List (List ℤ)
  pub lemmas : new.log.lemmas ≡ old.log.lemmas ++ more
  pub few : length more ≤ most

-- For proofs alone.

abbrev pub is_some_true : Option Bool → Bool
is_some_true (Some b) = b
is_some_true None = false

-- the values of the variables, false where one is open
abbrev pub values_of : Known → Values
values_of known = λ v. is_some_true (known v)

-- what a log says, after a lemma was added to a log without the empty lemma
abbrev pub IsEnd : List (List ℤ) → ℕ → Option Found → Type 0
IsEnd lemmas limit None = (EndsEmpty lemmas → ⊥) × (length lemmas ≢ limit)
IsEnd lemmas limit (Some (Model assignment)) = ⊥
IsEnd lemmas limit (Some Refuted) = EndsEmpty lemmas
IsEnd lemmas limit (Some Spent) = (EndsEmpty lemmas → ⊥) × (length lemmas ≡ limit)
