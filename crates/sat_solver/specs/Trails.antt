-- The trail of a search: the literals that are true, each a decision or with a clause that was unit as its reason.
use Rattle.std.specs.Prelude.{◌≡◌, ◌≢◌, All, ℕ, zero, suc, ◌<◌, ◌≤◌, Bool, List, [], ◌∷◌, length, take, ℤ, pos, Option, Some, None, Contains, slice_index_or, count_by, is_some, replicate}
use Rattle.clause_store.specs.Clauses.{variable}
use Rattle.clause_store.specs.Propagation.{Known, none, with_true, IsUnit, IsFalsified, IsQuiet, clause_at}
use Rattle.lrat_checker.specs.Tables.{known_of}
use Rattle.sat_solver.specs.declared.trail.Trail.{Trail}

-- For proofs alone.

-- the assignment in which these literals are true as well
abbrev pub with_all : Known → List ℤ → Known
with_all known [] = known
with_all known (l ∷ more) = with_all (with_true known l) more

-- the assignment in which these literals are true
abbrev pub assigned : List ℤ → Known
assigned literals = with_all none literals

-- the literal at a place
abbrev pub literal_at : List ℤ → ℕ → ℤ
literal_at literals p = slice_index_or literals p (pos 0)

-- Why a literal is true: reason 0 says that it is a decision, a free bit at the beginning of a level. Else the clause with this number was unit.
abbrev pub IsReason : List (List ℤ) → ℕ → List ℕ → List ℤ → ℕ → ℕ → Type 0
IsReason clauses free starts literals p zero = (0 < variable (literal_at literals p)) × (variable (literal_at literals p) ≤ free) × Contains starts p
IsReason clauses free starts literals p (suc k) = (clause : List ℤ) × (clause_at clauses (suc k) ≡ Some clause) × IsUnit (assigned (take p literals)) clause (literal_at literals p)

-- each literal was open when it was made true, and is of a variable below the limit
pub record AreApart (limit : ℕ) (literals : List ℤ) : Type 0 where
  pub open_ : (p : ℕ) → p < length literals → assigned (take p literals) (variable (literal_at literals p)) ≡ None
  pub within : (p : ℕ) → p < length literals → variable (literal_at literals p) < limit

-- levels begin one after the other, each at a literal of the trail
pub record AreStarts (count : ℕ) (starts : List ℕ) : Type 0 where
  pub within : (j : ℕ) → j < length starts → slice_index_or starts j 0 < count
  pub ascend : (i j : ℕ) → i < j → j < length starts → slice_index_or starts i 0 < slice_index_or starts j 0

-- each literal has a reason
pub record AreReasoned (clauses : List (List ℤ)) (free : ℕ) (literals : List ℤ) (reasons starts : List ℕ) : Type 0 where
  pub paired : length reasons ≡ length literals
  pub each : (p : ℕ) → p < length literals → IsReason clauses free starts literals p (slice_index_or reasons p 0)

-- each decision is a free bit at the beginning of a level
pub record AreDecisions (free : ℕ) (literals : List ℤ) (reasons starts : List ℕ) : Type 0 where
  pub paired : length reasons ≡ length literals
  pub each : (p : ℕ) → p < length literals → slice_index_or reasons p 0 ≡ 0 → (0 < variable (literal_at literals p)) × (variable (literal_at literals p) ≤ free) × Contains starts p

-- the clause with this number is false
pub record IsConflict (clauses : List (List ℤ)) (known : Known) (conflict : ℕ) : Type 0 where
  pub clause : List ℤ
  pub there : clause_at clauses conflict ≡ Some clause
  pub falsified : IsFalsified known clause

pub record IsTrail (clauses : List (List ℤ)) (free : ℕ) (values : List (Option Bool)) (literals : List ℤ) (reasons starts : List ℕ) : Type 0 where
  pub known : known_of values ≡ assigned literals
  pub apart : AreApart (length values) literals
  pub reasoned : AreReasoned clauses free literals reasons starts
  pub starts_ : AreStarts (length literals) starts
  pub counted : count_by is_some values ≡ length literals

-- all variables below the limit are open
pub record IsOpened (limit : ℕ) (t : Trail) : Type 0 where
  pub values : t.values.items ≡ replicate limit None
  pub literals : t.literals.items ≡ []
  pub reasons : t.reasons.items ≡ []
  pub starts : t.starts.items ≡ []

-- two trails with the same lists
pub record IsUnchanged (old new : Trail) : Type 0 where
  pub values : new.values.items ≡ old.values.items
  pub literals : new.literals.items ≡ old.literals.items
  pub reasons : new.reasons.items ≡ old.reasons.items

-- what is left of a trail while it is taken back
pub record IsUnwound (values : List (Option Bool)) (literals whole : List ℤ) : Type 0 where
  pub known : known_of values ≡ assigned literals
  pub apart : AreApart (length values) literals
  pub counted : count_by is_some values ≡ length literals
  pub first : literals ≡ take (length literals) whole

-- A trail to which literals were added, each with its reason. Nothing else has changed.
pub record IsGrown (clauses : List (List ℤ)) (old new : Trail) : Type 0 where
  pub trail : (free : ℕ) → IsTrail clauses free old.values.items old.literals.items old.reasons.items old.starts.items → IsTrail clauses free new.values.items new.literals.items new.reasons.items new.starts.items
  pub starts : new.starts.items ≡ old.starts.items
  pub len : length new.values.items ≡ length old.values.items
  pub prefix : (n : ℕ) → n ≤ length old.literals.items → (n ≤ length new.literals.items) × (take n new.literals.items ≡ take n old.literals.items)
  pub count : count_by is_some old.values.items ≤ count_by is_some new.values.items

-- when a level began, no clause was false or unit
abbrev pub QuietLevels : List (List ℤ) → List ℤ → List ℕ → Type 0
QuietLevels clauses literals starts = (j : ℕ) → j < length starts → All (IsQuiet (assigned (take (slice_index_or starts j 0) literals))) clauses

-- what holds of a search's trail between its steps
pub record IsReady (clauses : List (List ℤ)) (free : ℕ) (t : Trail) : Type 0 where
  pub trail : IsTrail clauses free t.values.items t.literals.items t.reasons.items t.starts.items
  pub quiet : QuietLevels clauses t.literals.items t.starts.items

-- no clause is false or unit, and none of these variables is open
pub record IsDecided (clauses : List (List ℤ)) (bits : List ℕ) (values : List (Option Bool)) : Type 0 where
  pub quiet : All (IsQuiet (known_of values)) clauses
  pub decided : All (λ v. known_of values v ≢ None) bits

-- no clause is false or unit, and no free bit is open
pub record IsDone (clauses : List (List ℤ)) (free : ℕ) (values : List (Option Bool)) : Type 0 where
  pub quiet : All (IsQuiet (known_of values)) clauses
  pub bits : (v : ℕ) → 0 < v → v ≤ free → known_of values v ≢ None
