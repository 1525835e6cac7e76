-- Which clauses hold a literal, and how many literals of a clause are false and true.
use Rattle.std.specs.Prelude.{◌≡◌, ℕ, zero, suc, ◌+◌, ◌*◌, ◌<◌, ◌⊎◌, ◌++◌, Bool, true, false, not, List, [], length, replicate, ℤ, pos, negsuc, Option, Some, None, count_by, nat_eq, slice_index_or}
use Rattle.clause_store.specs.Propagation.{Known, literal, IsUnit, IsFalsified}

-- For proofs alone.

-- the place of a literal's list
abbrev pub place_of : ℤ → ℕ
place_of (pos n) = 2 * n
place_of (negsuc n) = 2 * n + 1

abbrev pub is_literal : ℤ → ℤ → Bool
is_literal l k = nat_eq (place_of l) (place_of k)

-- how often a literal stands in a clause
abbrev pub times : ℤ → List ℤ → ℕ
times l clause = count_by (is_literal l) clause

-- the clause with this number, from 1, and the empty one where there is none
abbrev pub numbered : List (List ℤ) → ℕ → List ℤ
numbered clauses zero = []
numbered clauses (suc k) = slice_index_or clauses k []

-- the list of a literal
abbrev pub list_of : List (List ℕ) → ℤ → List ℕ
list_of lists l = slice_index_or lists (place_of l) []

-- a clause's number was added at the end of the list of each of its literals
pub record IsAdded (number : ℕ) (clause : List ℤ) (old new : List (List ℕ)) : Type 0 where
  pub len : length new ≡ length old
  pub lists : (l : ℤ) → list_of new l ≡ list_of old l ++ replicate (times l clause) number

-- the list of each literal has the number of each clause as often as the clause holds the literal
abbrev pub AreHolders : List (List ℤ) → List (List ℕ) → Type 0
AreHolders clauses lists = (l : ℤ) (n : ℕ) → count_by (nat_eq n) (list_of lists l) ≡ times l (numbered clauses n)

-- whether an option is this value
abbrev pub is_value : Bool → Option Bool → Bool
is_value true (Some b) = b
is_value false (Some b) = not b
is_value b None = false

-- how many literals of a clause have this value
abbrev pub valued : Known → Bool → List ℤ → ℕ
valued known b clause = count_by (λ l. is_value b (literal known l)) clause

-- the table has for each clause how many of its literals have this value
pub record AreCounted (clauses : List (List ℤ)) (known : Known) (b : Bool) (table : List ℕ) : Type 0 where
  pub len : length table ≡ length clauses + 1
  pub each : (n : ℕ) → slice_index_or table n 0 ≡ valued known b (numbered clauses n)

-- two literals of so many aren't false, or one is true
abbrev pub ShowQuiet : ℕ → ℕ → ℕ → Type 0
ShowQuiet literals falses trues = (falses + 1 < literals) ⊎ (0 < trues)

-- Under the values before, the clause isn't false, and where it is unit its literal is true now.
pub record IsSettled (before now : Known) (clause : List ℤ) : Type 0 where
  pub not_false : IsFalsified before clause → ⊥
  pub made_true : (l : ℤ) → IsUnit before clause l → literal now l ≡ Some true
