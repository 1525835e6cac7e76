-- Propagation that costs by what is assigned: what holds of a trail, the lists of occurrences and the counts.
use Rattle.std.specs.Prelude.{◌≡◌, ℕ, ◌+◌, ◌*◌, ◌<◌, ◌≤◌, ◌^◌, ◌++◌, ◌∷◌, [], Bool, true, false, List, length, take, ℤ, neg_ℤ, Some, All, slice_set, slice_index_or, count_by, nat_eq}
use Rattle.clause_store.specs.Clauses.{variable}
use Rattle.clause_store.specs.Propagation.{Known, is_positive, IsQuiet, clause_at}
use Rattle.lrat_checker.specs.Tables.{known_of}
use Rattle.sat_solver.specs.declared.trail.Trail.{Trail}
use Rattle.sat_solver.specs.declared.propagator.Propagator.{Propagator}
use Rattle.sat_solver.specs.declared.counts.Counts.{Counts}
use Rattle.sat_solver.specs.Occurrences.{place_of, list_of, AreHolders, AreCounted, IsSettled}
use Rattle.sat_solver.specs.Trails.{assigned, AreStarts, IsConflict, IsUnwound}
use Rattle.sat_solver.specs.Watches.{AreWatched, AreGuarded}

-- For proofs alone.

-- the lists and the counts are those of these clauses, under these values
pub record IsIndexed (clauses : List (List ℤ)) (known : Known) (lists : List (List ℕ)) (falses trues : List ℕ) : Type 0 where
  pub holders : AreHolders clauses lists
  pub false_counts : AreCounted clauses known false falses
  pub true_counts : AreCounted clauses known true trues
  pub positive : All (All (λ l. 0 < variable l)) clauses
  pub short : All (λ clause. length clause < 2 ^ 32) clauses

-- The first clauses are taken in: the lists and counts of those that are counted are kept, and the pairs of those that are watched; and what was to follow of the literals before `head` is true.
pub record IsKept (clauses : List (List ℤ)) (p : Propagator) : Type 0 where
  pub few : p.taken ≤ length clauses
  pub counted : List (List ℤ)
  pub watched : AreWatched (take p.taken clauses) counted p.watches
  pub indexed : IsIndexed counted (known_of p.trail.values.items) p.occurrences p.counts.falses.items p.counts.trues.items
  pub guarded : AreGuarded p.watches p.trail.literals.items p.trail.starts.items p.head
  pub wide : length p.occurrences + 1 ≡ 2 * length p.trail.values.items
  pub lists_wide : length p.watches.lists + 1 ≡ 2 * length p.trail.values.items
  pub begun : AreStarts (length p.trail.literals.items) p.trail.starts.items
  pub unwound : IsUnwound p.trail.values.items p.trail.literals.items p.trail.literals.items
  pub within : p.head ≤ length p.trail.literals.items
  pub settled : All (IsSettled (assigned (take p.head p.trail.literals.items)) (known_of p.trail.values.items)) (take p.taken clauses)

-- what stays while clauses are examined
pub record IsSteady (old new : Propagator) : Type 0 where
  pub occurrences : new.occurrences ≡ old.occurrences
  pub taken : new.taken ≡ old.taken
  pub head : new.head ≡ old.head
  pub watches : new.watches ≡ old.watches

-- an open literal was made true for this reason
pub record IsAssigned (l : ℤ) (reason : ℕ) (old new : Trail) : Type 0 where
  pub values : new.values.items ≡ slice_set old.values.items (variable l) (Some (is_positive l))
  pub literals : new.literals.items ≡ old.literals.items ++ l ∷ []
  pub reasons : new.reasons.items ≡ old.reasons.items ++ reason ∷ []

-- a literal's lists are there, and its entries can be counted
pub record CanCount (l : ℤ) (lists : List (List ℕ)) (counts : Counts) : Type 0 where
  pub place : place_of l < length lists
  pub against : place_of (neg_ℤ l) < length lists
  pub falses_within : All (λ n. n < length counts.falses.items) (list_of lists (neg_ℤ l))
  pub falses_room : (n : ℕ) → slice_index_or counts.falses.items n 0 + count_by (nat_eq n) (list_of lists (neg_ℤ l)) < 2 ^ 32
  pub trues_within : All (λ n. n < length counts.trues.items) (list_of lists l)
  pub trues_room : (n : ℕ) → slice_index_or counts.trues.items n 0 + count_by (nat_eq n) (list_of lists l) < 2 ^ 32

-- a literal that was made true was counted
pub record AreRaised (l : ℤ) (lists : List (List ℕ)) (old new : Counts) : Type 0 where
  pub falses_len : length new.falses.items ≡ length old.falses.items
  pub falses : (n : ℕ) → slice_index_or new.falses.items n 0 ≡ slice_index_or old.falses.items n 0 + count_by (nat_eq n) (list_of lists (neg_ℤ l))
  pub trues_len : length new.trues.items ≡ length old.trues.items
  pub trues : (n : ℕ) → slice_index_or new.trues.items n 0 ≡ slice_index_or old.trues.items n 0 + count_by (nat_eq n) (list_of lists l)

-- what an examined clause is
abbrev pub IsExamined : List (List ℤ) → Known → ℕ → Bool → Type 0
IsExamined clauses known number true = IsConflict clauses known number
IsExamined clauses known number false = (clause : List ℤ) → clause_at clauses number ≡ Some clause → IsQuiet known clause
