-- Bits of parts, and the targets that they are.
use Rattle.flat_assigns.proofs.Common.{◌≡◌, neg_ℤ, ℕ, zero, suc, ◌+◌, ◌-◌, ◌^◌, ◌<◌, ◌≤◌, Bool, true, false, ℤ, pos, negsuc, ◌+ℤ◌, List, [], ◌∷◌, ◌++◌, Option, Some, None, refl, sym, ap, ◌∙◌, arith}
use Rattle.flat_assigns.proofs.Common.{if◌then◌else◌, Span, Vector, bit_at, bits_from, Kept, bound_integer, first_bits, bit_in, vector_in, Target, bit_targets}
use Rattle.std.proofs.lemmas.Bool.Decides.{nat_tests}
use Rattle.std.proofs.lemmas.Int.{ints}

from_start : (z : ℤ) → z +ℤ pos 0 ≡ z
from_start z = omega (arith, ints)

one_more : (z : ℤ) (k : ℕ) → (z +ℤ pos 1) +ℤ pos k ≡ z +ℤ pos (suc k)
one_more z k = omega (arith, ints)

-- one more bit at the end
pub bits_more : (v : Vector) (k : ℕ) (z : ℤ) → bits_from v z (suc k) ≡ bits_from v z k ++ bit_at v (z +ℤ pos k) ∷ []
bits_more v zero z = ap (λ (y : ℤ). bit_at v y ∷ []) (sym (from_start z))
bits_more v (suc k) z = ap (λ (l : List (Option ℕ)). bit_at v z ∷ l) (bits_more v k (z +ℤ pos 1) ∙ ap (λ (y : ℤ). bits_from v (z +ℤ pos 1) k ++ bit_at v y ∷ []) (one_more z k))

pub first_more : (s : Kept) (k : ℕ) → first_bits s (k + 1) ≡ first_bits s k ++ bit_in s k ∷ []
first_more s k = let e : k + 1 ≡ suc k = omega arith in ap (first_bits s) e ∙ bits_more (vector_in s) k (bound_integer s.base)

-- and several more
pub bits_append : (v : Vector) (a b : ℕ) (z : ℤ) → bits_from v z (a + b) ≡ bits_from v z a ++ bits_from v (z +ℤ pos a) b
bits_append v zero b z = let e : 0 + b ≡ b = omega arith in ap (bits_from v z) e ∙ ap (λ (y : ℤ). bits_from v y b) (sym (from_start z))
bits_append v (suc a) b z =
    let e : suc a + b ≡ suc (a + b) = omega arith in
    ap (bits_from v z) e ∙ ap (λ (l : List (Option ℕ)). bit_at v z ∷ l) (bits_append v a b (z +ℤ pos 1) ∙ ap (λ (y : ℤ). bits_from v (z +ℤ pos 1) a ++ bits_from v y b) (one_more z a))

-- the first bits, and those that are left
pub first_split : (s : Kept) (k n : ℕ) → k < n → (more : List (Option ℕ)) × (first_bits s n ≡ (first_bits s k ++ bit_in s k ∷ []) ++ more)
first_split s k n less =
    let e : (k + 1) + (n - (k + 1)) ≡ n = omega arith in
    let rest = bits_from (vector_in s) (bound_integer s.base +ℤ pos (k + 1)) (n - (k + 1)) in
    (rest, ap (first_bits s) (sym e) ∙ bits_append (vector_in s) (k + 1) (n - (k + 1)) (bound_integer s.base) ∙ ap (λ (l : List (Option ℕ)). l ++ rest) (first_more s k))

-- Bits by their declared numbers.

pub bit_there : (v : Vector) (n : ℕ) → v.low ≤ n → n - v.low < v.width → bit_at v (pos n) ≡ Some (n - v.low)
bit_there v n low wide = grind (arith, nat_tests)

pub bit_below : (v : Vector) (n : ℕ) → n < v.low → bit_at v (pos n) ≡ None
bit_below v n low = grind (arith, nat_tests)

pub bit_above : (v : Vector) (n : ℕ) → v.width ≤ n - v.low → bit_at v (pos n) ≡ None
bit_above v n wide = grind (arith, nat_tests)

pub bit_negative : (v : Vector) (m k : ℕ) → k < m → bit_at v (neg_ℤ (pos m) +ℤ pos k) ≡ None
bit_negative v m k less = let e : neg_ℤ (pos m) +ℤ pos k ≡ negsuc (m - k - 1) = omega (arith, ints) in ap (bit_at v) e

pub bit_after : (v : Vector) (m k : ℕ) → m ≤ k → bit_at v (neg_ℤ (pos m) +ℤ pos k) ≡ bit_at v (pos (k - m))
bit_after v m k le = let e : neg_ℤ (pos m) +ℤ pos k ≡ pos (k - m) = omega (arith, ints) in ap (bit_at v) e

-- Bits of a part, by its base.

signed_at : (s : Kept) (k : ℕ) (b : Bool) → s.base.is_negative ≡ b → bit_in s k ≡ bit_at (vector_in s) ((if b then neg_ℤ (pos s.base.magnitude) else pos s.base.magnitude) +ℤ pos k)
signed_at s k b e = ap (λ (x : Bool). bit_at (vector_in s) ((if x then neg_ℤ (pos s.base.magnitude) else pos s.base.magnitude) +ℤ pos k)) e

pub bit_before : (s : Kept) (k : ℕ) → s.base.is_negative ≡ true → k < s.base.magnitude → bit_in s k ≡ None
bit_before s k e less = signed_at s k true e ∙ bit_negative (vector_in s) s.base.magnitude k less

pub bit_since : (s : Kept) (k : ℕ) → s.base.is_negative ≡ true → s.base.magnitude ≤ k → bit_in s k ≡ bit_at (vector_in s) (pos (k - s.base.magnitude))
bit_since s k e le = signed_at s k true e ∙ bit_after (vector_in s) s.base.magnitude k le

pub bit_from : (s : Kept) (k : ℕ) → s.base.is_negative ≡ false → bit_in s k ≡ bit_at (vector_in s) (pos (s.base.magnitude + k))
bit_from s k e = signed_at s k false e

pub bit_far : (s : Kept) (k : ℕ) → s.base.is_negative ≡ false → 2 ^ 128 ≤ s.base.magnitude + k → s.low < 2 ^ 32 → s.width < 2 ^ 8 → bit_in s k ≡ None
bit_far s k e far low wide = bit_from s k e ∙ bit_above (vector_in s) (s.base.magnitude + k) (omega (arith, far, low, wide))

-- targets of bits one after the other
pub targets_append : (span : Span) (k : ℕ) (xs ys : List (Option ℕ)) → bit_targets span k (xs ++ ys) ≡ bit_targets span k xs ++ bit_targets span k ys
targets_append span k [] ys = refl
targets_append span k (None ∷ xs) ys = targets_append span k xs ys
targets_append span k (Some i ∷ xs) ys = ap (λ (l : List Target). record { span = span; place = record { signal = k; bit = i } } ∷ l) (targets_append span k xs ys)
