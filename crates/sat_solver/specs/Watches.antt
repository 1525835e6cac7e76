-- Long clauses, as lemmas are, that are watched at two of their literals.
use Rattle.std.specs.Prelude.{◌≡◌, ◌≢◌, ℕ, ◌+◌, ◌<◌, ◌≤◌, ◌⊎◌, false, true, List, [], length, take, ℤ, pos, Option, Some, None, Contains, slice_index_or}
use Rattle.clause_store.specs.Propagation.{Known, literal}
use Rattle.sat_solver.specs.declared.watches.Pair.{Pair}
use Rattle.sat_solver.specs.declared.watches.Watches.{Watches}
use Rattle.sat_solver.specs.Trails.{assigned}
use Rattle.sat_solver.specs.Occurrences.{list_of, numbered, IsSettled}

-- For proofs alone.

-- the literals at which the clause with this number is watched, if it is
abbrev pub pair_of : Watches → ℕ → Option Pair
pair_of w n = slice_index_or w.pairs.items n None

-- no literal stands twice
abbrev pub AreDifferent : List ℤ → Type 0
AreDifferent clause = (i j : ℕ) → i < j → j < length clause → slice_index_or clause i (pos 0) ≢ slice_index_or clause j (pos 0)

-- two different literals of a clause in which none stands twice
pub record IsPair (clause : List ℤ) (pair : Pair) : Type 0 where
  pub different : AreDifferent clause
  pub apart : pair.first ≢ pair.second
  pub first_in : Contains clause pair.first
  pub second_in : Contains clause pair.second

-- the one literal of a pair and the other
abbrev pub IsOther : Pair → ℤ → ℤ → Type 0
IsOther pair l other = ((pair.first ≡ l) × (pair.second ≡ other)) ⊎ ((pair.second ≡ l) × (pair.first ≡ other))

-- where one literal of the pair was false under the values before, the other one is true now
pub record IsGuard (before now : Known) (pair : Pair) : Type 0 where
  pub first_false : literal before pair.first ≡ Some false → literal now pair.second ≡ Some true
  pub second_false : literal before pair.second ≡ Some false → literal now pair.first ≡ Some true

-- all pairs are guards
abbrev pub AreGuards : Known → Known → Watches → Type 0
AreGuards before now w = (n : ℕ) (pair : Pair) → pair_of w n ≡ Some pair → IsGuard before now pair

-- a clause with this number is watched at a pair, in whose lists the number is, and isn't counted
pub record IsWatched (clauses counted : List (List ℤ)) (n : ℕ) (lists : List (List ℕ)) (pair : Pair) : Type 0 where
  pub low : 1 ≤ n
  pub high : n ≤ length clauses
  pub empty : numbered counted n ≡ []
  pub of_clause : IsPair (numbered clauses n) pair
  pub first_listed : Contains (list_of lists pair.first) n
  pub second_listed : Contains (list_of lists pair.second) n

-- each of these clauses is counted, or is watched and counted as an empty one
pub record AreWatched (clauses counted : List (List ℤ)) (w : Watches) : Type 0 where
  pub len : length counted ≡ length clauses
  pub pairs : length w.pairs.items ≡ length clauses + 1
  pub others : (n : ℕ) → pair_of w n ≡ None → numbered counted n ≡ numbered clauses n
  pub watched : (n : ℕ) (pair : Pair) → pair_of w n ≡ Some pair → IsWatched clauses counted n w.lists pair

-- the pairs are guards for the literals before `head`, and were so when each level began
pub record AreGuarded (w : Watches) (literals : List ℤ) (starts : List ℕ) (head : ℕ) : Type 0 where
  pub now : AreGuards (assigned (take head literals)) (assigned literals) w
  pub levels : (s : ℕ) → Contains starts s → AreGuards (assigned (take s literals)) (assigned (take s literals)) w

-- a pair is a guard now, and was so when each level began
pub record IsSafe (literals : List ℤ) (starts : List ℕ) (pair : Pair) : Type 0 where
  pub now : IsGuard (assigned literals) (assigned literals) pair
  pub levels : (s : ℕ) → Contains starts s → IsGuard (assigned (take s literals)) (assigned (take s literals)) pair

-- the clauses that are counted are settled
abbrev pub AreSettled : Known → Known → List (List ℤ) → Watches → Type 0
AreSettled before now clauses w = (n : ℕ) → 1 ≤ n → n ≤ length clauses → pair_of w n ≡ None → IsSettled before now (numbered clauses n)

-- no clause is watched that wasn't before, or no longer
abbrev pub KeepsCounted : Watches → Watches → Type 0
KeepsCounted old new = (n : ℕ) → pair_of new n ≡ None → pair_of old n ≡ None

-- the number stands in the list at this place or behind it
abbrev pub StandsFrom : ℕ → List ℕ → ℕ → Type 0
StandsFrom place list n = (k : ℕ) × (place ≤ k) × (k < length list) × (slice_index_or list k 0 ≡ n)
