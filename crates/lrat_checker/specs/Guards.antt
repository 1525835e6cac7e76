-- Which lemmas are looked at where a literal is false: each stands in the list of one of its literals.
use Rattle.std.specs.Prelude.{◌≡◌, ℕ, ◌+◌, ◌-◌, ◌*◌, ◌<◌, ◌++◌, ◌∷◌, true, List, [], length, map, take, ℤ, pos, negsuc, Contains, Some, slice_get, slice_index_or, slice_set}
use Rattle.lrat_checker.specs.declared.guards.Guards.{Guards}

-- For proofs alone.

-- the place of a literal's list
abbrev pub place_of : ℤ → ℕ
place_of (pos n) = 2 * n
place_of (negsuc n) = 2 * n + 1

-- the list at a place
abbrev pub list_at : List (List ℕ) → ℕ → List ℕ
list_at lists p = slice_index_or lists p []

-- lemma number n, from 0, stands in the list of one of its literals
pub record IsGuarded (lemmas : List (List ℤ)) (lists : List (List ℕ)) (n : ℕ) : Type 0 where
  pub literal : ℤ
  pub own : Contains (slice_index_or lemmas n []) literal
  pub listed : Contains (list_at lists (place_of literal)) n

abbrev pub lists_of : Guards → List (List ℕ)
lists_of g = map (λ list. list.items) g.lists.items

-- where all lemmas are said to be guarded, each is
abbrev pub AreGuarded : List (List ℤ) → Guards → Type 0
AreGuarded lemmas g = g.all ≡ true → (n : ℕ) → n < length lemmas → IsGuarded lemmas (lists_of g) n

-- this is the last number of a list
abbrev pub IsLast : List (List ℕ) → ℕ → ℕ → Type 0
IsLast lists p n = slice_get (list_at lists p) (length (list_at lists p) - 1) ≡ Some n

-- the last number of one list stands at the end of another one
abbrev pub moved : List (List ℕ) → ℕ → ℕ → ℕ → List (List ℕ)
moved lists from to n = slice_set (slice_set lists to (list_at lists to ++ n ∷ [])) from (take (length (list_at lists from) - 1) (list_at lists from))
