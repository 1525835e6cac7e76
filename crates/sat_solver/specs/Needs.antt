-- What a conflict needs of a trail, and the lemma that is left of it.
use Rattle.std.specs.Prelude.{◌≡◌, ℕ, ◌+◌, ◌-◌, ◌<◌, ◌≤◌, Bool, true, false, List, [], length, take, drop, ℤ, Some, None, slice_index_or, All, reverse}
use Rattle.clause_store.specs.Clauses.{variable}
use Rattle.clause_store.specs.Propagation.{Known, none, with_false, is_positive, EndsInConflict}
use Rattle.lrat_checker.specs.LegalLogs.{is_named, AreFree}
use Rattle.lrat_checker.specs.Steps.{IsFalse}
use Rattle.sat_solver.specs.Trails.{assigned, literal_at}

-- For proofs alone.

-- whether a variable is marked
abbrev pub is_needed : List Bool → ℕ → Bool
is_needed needed v = slice_index_or needed v false

-- An assignment that serves the hints so far, where the trail was walked down to place p: it has only values of the trail, has those of what is needed before p and of the lemma, and has none from p on that the lemma doesn't name.
pub record Serves (literals : List ℤ) (needed : List Bool) (lemma : List ℤ) (p : ℕ) (known : Known) : Type 0 where
  pub only : (v : ℕ) (b : Bool) → known v ≡ Some b → assigned literals v ≡ Some b
  pub needs : (q : ℕ) → q < p → is_needed needed (variable (literal_at literals q)) ≡ true → known (variable (literal_at literals q)) ≡ Some (is_positive (literal_at literals q))
  pub lemma_false : (v : ℕ) → is_named lemma v ≡ true → known v ≡ assigned literals v
  pub open_ : (q : ℕ) → p ≤ q → q < length literals → is_named lemma (variable (literal_at literals q)) ≡ false → known (variable (literal_at literals q)) ≡ None

-- the hints so far, the last one first, end in a conflict from each assignment that serves
abbrev pub Derive : List (List ℤ) → List ℤ → List Bool → List ℤ → ℕ → List ℕ → Type 0
Derive clauses literals needed lemma p used = (known : Known) → Serves literals needed lemma p known → EndsInConflict clauses known (reverse used)

-- the lemma so far: free literals that are false, of places from p on
pub record IsLeft (free : ℕ) (literals lemma : List ℤ) (p : ℕ) : Type 0 where
  pub over_free : AreFree free lemma
  pub all_false : All (IsFalse (assigned literals)) lemma
  pub later : (q : ℕ) → q < p → is_named lemma (variable (literal_at literals q)) ≡ false

-- the place of the last decision
abbrev pub last_start : List ℕ → ℕ
last_start starts = slice_index_or starts (length starts - 1) 0

-- none of these places is needed
abbrev pub NoneNeeded : List ℤ → List Bool → ℕ → ℕ → Type 0
NoneNeeded literals needed from to = (q : ℕ) → from ≤ q → q < to → is_needed needed (variable (literal_at literals q)) ≡ false

-- where the walk stands at place p
pub record IsWalked (clauses : List (List ℤ)) (free : ℕ) (literals : List ℤ) (starts : List ℕ) (needed : List Bool) (lemma : List ℤ) (used : List ℕ) (back p : ℕ) : Type 0 where
  pub derive : Derive clauses literals needed lemma p used
  pub left_ : IsLeft free literals lemma p
  pub few : length used + p ≤ length literals + 1
  pub below : All (IsFalse (assigned (take (last_start starts) literals))) (drop 1 lemma)
  pub one_last : 0 < length lemma → NoneNeeded literals needed (last_start starts) p
  pub levels : length starts ≡ 0 → lemma ≡ []
  pub first_open : (n : ℕ) → 0 < length lemma → n ≤ p → assigned (take n literals) (variable (literal_at lemma 0)) ≡ None
  pub kept : (j : ℕ) → j < back → (1 < length lemma) × (assigned (take (slice_index_or starts j 0) literals) (variable (literal_at lemma 0)) ≡ None) × (assigned (take (slice_index_or starts j 0) literals) (variable (literal_at lemma 1)) ≡ None)
  pub back_within : back ≤ length starts

-- A lemma of a trail with its hints. Below the last level only its first literal is not false, and on the levels that are kept its first two are open.
pub record IsLearned (clauses : List (List ℤ)) (free : ℕ) (literals : List ℤ) (starts : List ℕ) (lemma : List ℤ) (hints : List ℕ) (back : ℕ) : Type 0 where
  pub over_free : AreFree free lemma
  pub follows : EndsInConflict clauses (with_false none lemma) hints
  pub few : length hints ≤ length literals + 1
  pub all_false : All (IsFalse (assigned literals)) lemma
  pub below : All (IsFalse (assigned (take (last_start starts) literals))) (drop 1 lemma)
  pub levels : length starts ≡ 0 → lemma ≡ []
  pub kept : (j : ℕ) → j < back → (1 < length lemma) × (assigned (take (slice_index_or starts j 0) literals) (variable (literal_at lemma 0)) ≡ None) × (assigned (take (slice_index_or starts j 0) literals) (variable (literal_at lemma 1)) ≡ None)
  pub back_within : back ≤ length starts
