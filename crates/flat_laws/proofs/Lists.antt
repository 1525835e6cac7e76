-- Lists that grow, and how often a number is in them.
use Rattle.flat_laws.proofs.Common.{◌≡◌, ℕ, zero, suc, ◌+◌, Bool, true, false, List, [], ◌∷◌, ◌++◌, length, Option, None, Some, subst, arith, slice_get, slice_set, nat_eq, nat_lt, if◌then◌else◌}
use Rattle.std.proofs.lemmas.Bool.Decides.{nat_tests}

-- what holds of both holds of the one that a test chooses
pub either : {A : Type 0} (P : A → Type 0) (b : Bool) (x y : A) → P x → P y → P (if b then x else y)
either P true x y h g = h
either P false x y h g = g

-- What holds of the element at a place, and of no place past the end, holds there in a longer list.
pub holds_more : {A : Type 0} (P : Option A → Type 0) → (P None → ⊥) → (xs ys : List A) (k : ℕ) → P (slice_get xs k) → P (slice_get (xs ++ ys) k)
holds_more P none [] ys k h = absurd (none h)
holds_more P none (x ∷ xs) ys zero h = h
holds_more P none (x ∷ xs) ys (suc k) h = holds_more P none xs ys k h

-- in a list one element longer it holds, or the place is that of the last element
pub holds_last : {A : Type 0} (P : Option A → Type 0) (x : A) (xs : List A) → P (Some x) → P (slice_get (xs ++ x ∷ []) (length xs))
holds_last P x [] h = h
holds_last P x (y ∷ xs) h = holds_last P x xs h

-- it holds too where another element takes the place of one, if it holds of that as of the one before
pub holds_set : {A : Type 0} (P : Option A → Type 0) (new : A) (xs : List A) (k n : ℕ) → (P (slice_get xs k) → P (Some new)) → P (slice_get xs n) → P (slice_get (slice_set xs k new) n)
holds_set P new [] k n same h = h
holds_set P new (x ∷ xs) zero zero same h = same h
holds_set P new (x ∷ xs) zero (suc n) same h = h
holds_set P new (x ∷ xs) (suc k) zero same h = h
holds_set P new (x ∷ xs) (suc k) (suc n) same h = holds_set P new xs k n same h

-- what holds of the element that was put there
pub holds_there : {A : Type 0} (P : Option A → Type 0) (new old : A) (xs : List A) (k : ℕ) → slice_get xs k ≡ Some old → P (Some new) → P (slice_get (slice_set xs k new) k)
holds_there P new old [] k e h = cc
holds_there P new old (x ∷ xs) zero e h = h
holds_there P new old (x ∷ xs) (suc k) e h = holds_there P new old xs k e h

-- each element of a longer list is one of the list, or the last
pub each_more : {A : Type 0} (P : A → Type 0) (x : A) (xs : List A) → ((k : ℕ) (y : A) → slice_get xs k ≡ Some y → P y) → P x → (k : ℕ) (y : A) → slice_get (xs ++ x ∷ []) k ≡ Some y → P y
each_more P x [] h last zero y e = let same : x ≡ y = cc in subst P same last
each_more P x [] h last (suc k) y e = cc
each_more P x (z ∷ xs) h last zero y e = h zero y e
each_more P x (z ∷ xs) h last (suc k) y e = each_more P x xs (λ n. h (suc n)) last k y e

-- Numbers below a count: each one once.

abbrev pub below : ℕ → ℕ → ℕ
below k n = if nat_lt k n then 1 else 0

abbrev pub here : ℕ → ℕ → ℕ
here k n = if nat_eq n k then 1 else 0

pub below_more : (k n : ℕ) → below k (n + 1) ≡ below k n + here k n
below_more k n = grind (arith, nat_tests)

pub below_none : (k : ℕ) → below k 0 ≡ 0
below_none k = grind (arith, nat_tests)
