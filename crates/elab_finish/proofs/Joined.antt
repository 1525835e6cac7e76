-- Numbers above the nets of signals, and nets that are joined to nets.
use Rattle.elab_finish.proofs.Common.{◌≡◌, ℕ, zero, suc, ◌+◌, ◌<◌, ◌≤◌, true, List, [], ◌∷◌, length, get_or, slice_get, Some, None, refl, ◌∙◌, subst, inl, inr, arith, slice_index_or, cases_lt, Bit}
use Rattle.elab_finish.proofs.Common.{Net, On, Building, signal, IsJoined, joint_of, joint_found, IsBit, next_of, stepped_on}

-- the bit at a place of a list
pub bit_there : {A : Type 0} → (xs : List A) (k : ℕ) (x y : A) → x ≡ get_or xs k x → k < length xs → slice_get xs k ≡ Some y → x ≡ y
bit_there [] k x y is less e = absurd (omega (arith, less))
bit_there (z ∷ xs) zero x y is less e = let same : z ≡ y = cc in is ∙ same
bit_there (z ∷ xs) (suc k) x y is less e = bit_there xs k x y is (omega (arith, less)) e

-- the item at a place is the same whatever is told past the end
pub same_there : {A : Type 0} → (xs : List A) (k : ℕ) (x y : A) → k < length xs → get_or xs k x ≡ get_or xs k y
same_there [] k x y less = absurd (omega (arith, less))
same_there (z ∷ xs) zero x y less = refl
same_there (z ∷ xs) (suc k) x y less = same_there xs k x y (omega (arith, less))

pub above_step : (bits : List Bit) (k : ℕ) (x : Bit) (limit next : ℕ) → x ≡ get_or bits k x → k < length bits → ((i n : ℕ) → i < k → slice_get bits i ≡ Some (Net n) → n < limit) → limit ≤ next → ((n : ℕ) → x ≡ Net n → n < next) → (i n : ℕ) → i < k + 1 → slice_get bits i ≡ Some (Net n) → n < next
above_step bits k x limit next is less before le here i n small e = elim (cases_lt i k) [
  | inl earlier ↦ (let low = before i n earlier e in omega (arith, low, le))
  | inr not ↦ (let same : i ≡ k = omega (arith, small, not) in here n (bit_there bits k x (Net n) is less (subst (λ (j : ℕ). slice_get bits j ≡ Some (Net n)) same e)))
]

pub limit_step : (b : Building) (k : ℕ) (limit next : ℕ) → ((j i n : ℕ) → j < k → IsBit b j i n → n < limit) → limit ≤ next → ((i n : ℕ) → slice_get (signal b k) i ≡ Some (Net n) → n < next) → (j i n : ℕ) → j < k + 1 → IsBit b j i n → n < next
limit_step b k limit next before le here j i n small at = elim (cases_lt j k) [
  | inl earlier ↦ (let low = before j i n earlier at in omega (arith, low, le))
  | inr not ↦ (let same : j ≡ k = omega (arith, small, not) in here i n (subst (λ (x : ℕ). slice_get (signal b x) i ≡ Some (Net n)) same at))
]

in_list : (signals : List (List Bit)) (k i n : ℕ) → slice_get (slice_index_or signals k []) i ≡ Some (Net n) → k < length signals
in_list [] k i n at = absurd cc
in_list (x ∷ more) zero i n at = omega arith
in_list (x ∷ more) (suc k) i n at = let less = in_list more k i n at in omega (arith, less)

-- a bit is one of a signal that is there
pub bit_known : (b : Building) (k i n : ℕ) → IsBit b k i n → k < length b.signals
bit_known b k i n at = in_list b.signals k i n at

-- Nets that go on are joined.

pub joined_on : (b : Building) (n m : ℕ) → next_of b n ≡ On m → IsJoined b n
joined_on b n m e = (Net m, joint_found b.joints n (Net m) (stepped_on (joint_of b.joints n) true None m e))
