-- The bits of numbers that are joined, and of those that stand for a row of bits.
use Rattle.signal_masks.proofs.Common.{◌≡◌, zero, suc, ℕ, ◌+◌, ◌-◌, ◌^◌, ◌%◌, ◌<◌, min, max, Bool, true, false, not, ◌&&◌, ◌||◌, nat_eq, nat_le, nat_lt, refl, ap, ◌∙◌, arith, nat_tests, has_bit}
use Rattle.std.specs.Int.{bit_at}
use Rattle.std.specs.Int.Bits.{bit_and, bit_or, bit_xor}
use Rattle.std.proofs.lemmas.Nat.Bits.{bit_at_and, bit_at_or, bit_at_xor, bit_at-lt, bit_at_mask_inside, bit_at_mask_below, bit_at_mask_above, bit_at-zero}
use Rattle.std.proofs.lemmas.Nat.{pow_pos}

or_test : (x y : ℕ) → x < 2 → y < 2 → nat_eq (max x y) 1 ≡ (nat_eq x 1 || nat_eq y 1)
or_test zero zero h k = refl
or_test zero (suc zero) h k = refl
or_test (suc zero) zero h k = refl
or_test (suc zero) (suc zero) h k = refl
or_test zero (suc (suc y)) h k = absurd (omega arith)
or_test (suc zero) (suc (suc y)) h k = absurd (omega arith)
or_test (suc (suc x)) y h k = absurd (omega arith)

and_test : (x y : ℕ) → x < 2 → y < 2 → nat_eq (min x y) 1 ≡ (nat_eq x 1 && nat_eq y 1)
and_test zero zero h k = refl
and_test zero (suc zero) h k = refl
and_test (suc zero) zero h k = refl
and_test (suc zero) (suc zero) h k = refl
and_test zero (suc (suc y)) h k = absurd (omega arith)
and_test (suc zero) (suc (suc y)) h k = absurd (omega arith)
and_test (suc (suc x)) y h k = absurd (omega arith)

-- a number without the bits that it shares with another
without_test : (x y : ℕ) → x < 2 → y < 2 → nat_eq ((x + min x y) % 2) 1 ≡ (nat_eq x 1 && not (nat_eq y 1))
without_test zero zero h k = refl
without_test zero (suc zero) h k = refl
without_test (suc zero) zero h k = refl
without_test (suc zero) (suc zero) h k = refl
without_test zero (suc (suc y)) h k = absurd (omega arith)
without_test (suc zero) (suc (suc y)) h k = absurd (omega arith)
without_test (suc (suc x)) y h k = absurd (omega arith)

pub has_or : (a b i : ℕ) → has_bit (bit_or a b) i ≡ (has_bit a i || has_bit b i)
has_or a b i = ap (λ (x : ℕ). nat_eq x 1) (bit_at_or a b i) ∙ or_test (bit_at a i) (bit_at b i) (bit_at-lt a i) (bit_at-lt b i)

pub has_and : (a b i : ℕ) → has_bit (bit_and a b) i ≡ (has_bit a i && has_bit b i)
has_and a b i = ap (λ (x : ℕ). nat_eq x 1) (bit_at_and a b i) ∙ and_test (bit_at a i) (bit_at b i) (bit_at-lt a i) (bit_at-lt b i)

pub has_missing : (a b i : ℕ) → has_bit (bit_xor a (bit_and a b)) i ≡ (has_bit a i && not (has_bit b i))
has_missing a b i = ap (λ (x : ℕ). nat_eq x 1) (bit_at_xor a (bit_and a b) i) ∙ ap (λ (x : ℕ). nat_eq ((bit_at a i + x) % 2) 1) (bit_at_and a b i) ∙ without_test (bit_at a i) (bit_at b i) (bit_at-lt a i) (bit_at-lt b i)

pub has_none : (i : ℕ) → has_bit 0 i ≡ false
has_none i = ap (λ (x : ℕ). nat_eq x 1) (bit_at-zero i)

row : (lo hi i : ℕ) (p q : Bool) → nat_le lo i ≡ p → nat_lt i hi ≡ q → has_bit (2 ^ hi - 2 ^ lo) i ≡ (p && q)
row lo hi i true true e f = ap (λ (x : ℕ). nat_eq x 1) (bit_at_mask_inside lo hi i (grind (arith, nat_tests)) (grind (arith, nat_tests)))
row lo hi i true false e f = ap (λ (x : ℕ). nat_eq x 1) (bit_at_mask_above lo hi i (grind (arith, nat_tests)))
row lo hi i false q e f = ap (λ (x : ℕ). nat_eq x 1) (bit_at_mask_below lo hi i (grind (arith, nat_tests)))

pub has_row : (lo hi i : ℕ) → has_bit (2 ^ hi - 2 ^ lo) i ≡ (nat_le lo i && nat_lt i hi)
has_row lo hi i = row lo hi i (nat_le lo i) (nat_lt i hi) refl refl

-- a row from a place on, cut to the width of its signal
pub row_long : (start size width i : ℕ) → (nat_le (min start width) i && nat_lt i (min (min start width + size) width)) ≡ (nat_lt i width && (nat_le start i && nat_lt i (start + size)))
row_long start size width i = grind (arith, nat_tests)

pub row_short : (before size width i : ℕ) → (nat_le 0 i && nat_lt i (min (size - before) width)) ≡ (nat_lt i width && nat_lt (i + before) size)
row_short before size width i = grind (arith, nat_tests)

-- the bits below one place without those below another
pub has_between : (lo hi i : ℕ) → has_bit ((2 ^ hi - 1) - (2 ^ lo - 1)) i ≡ (nat_le lo i && nat_lt i hi)
has_between lo hi i =
    let p : 0 < 2 ^ lo = pow_pos lo in
    let q : 0 < 2 ^ hi = pow_pos hi in
    let same : (2 ^ hi - 1) - (2 ^ lo - 1) ≡ 2 ^ hi - 2 ^ lo = omega arith in
    ap (λ (x : ℕ). has_bit x i) same ∙ has_row lo hi i
