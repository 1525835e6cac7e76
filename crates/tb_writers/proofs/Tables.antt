-- Masks in a table, and the bits that masks have in common.
use Rattle.tb_writers.proofs.Common.{◌≡◌, zero, suc, ℕ, ◌-◌, ◌^◌, ◌<◌, ◌≤◌, Bool, true, false, not, ◌&&◌, ◌||◌, nat_eq, nat_lt, List, [], ◌∷◌, ◌++◌, length, get_or, set, refl, sym, ap, ◌∙◌, arith}
use Rattle.tb_writers.proofs.Common.{fun_ext, nat_tests, get_or-set_same, get_or-set_other, no_bits, either, has_bit, some_below, bits_of, mask_bits, whole_signal, or-right, or-left}
use Rattle.std.specs.Int.{bit_at}
use Rattle.std.specs.Int.Bits.{bit_and, bit_or}
use Rattle.std.proofs.lemmas.Nat.{and_le_l}
use Rattle.std.proofs.lemmas.Nat.Bits.{bit_at-lt, bit_at-zero, bit_at_ones, bit_at_ones_above, same_from_bits_below}
use Rattle.signal_masks.proofs.Bits.{has_or, has_and, has_none}

pub none_at_first : bits_of [] ≡ no_bits
none_at_first = fun_ext (λ n. fun_ext (λ i. has_none i))

zero_more : (xs : List ℕ) (n : ℕ) → get_or (xs ++ 0 ∷ []) n 0 ≡ get_or xs n 0
zero_more [] zero = refl
zero_more [] (suc n) = refl
zero_more (x ∷ xs) zero = refl
zero_more (x ∷ xs) (suc n) = zero_more xs n

pub room_more : (xs : List ℕ) → bits_of (xs ++ 0 ∷ []) ≡ bits_of xs
room_more xs = fun_ext (λ n. fun_ext (λ i. ap (λ (m : ℕ). has_bit m i) (zero_more xs n)))

off : (a : Bool) → a ≡ (a || false)
off true = refl
off false = refl

-- a mask that was added to that of a signal
pub mask_more : (xs : List ℕ) (k v bits : ℕ) → k < length xs → v ≡ bit_or (get_or xs k 0) bits → bits_of (set xs k v) ≡ either (bits_of xs) (mask_bits k bits)
mask_more xs k v bits h is = fun_ext (λ n. fun_ext (λ i. go n i (nat_eq n k) refl))
  where
    go : (n i : ℕ) (b : Bool) → nat_eq n k ≡ b → has_bit (get_or (set xs k v) n 0) i ≡ (has_bit (get_or xs n 0) i || (nat_eq n k && has_bit bits i))
    go n i true e =
        let same : n ≡ k = grind (arith, nat_tests) in
        let here : get_or (set xs k v) n 0 ≡ bit_or (get_or xs n 0) bits = ap (λ (m : ℕ). get_or (set xs k v) m 0) same ∙ get_or-set_same xs k v 0 h ∙ is ∙ ap (λ (m : ℕ). bit_or (get_or xs m 0) bits) (sym same) in
        ap (λ (m : ℕ). has_bit m i) here ∙ has_or (get_or xs n 0) bits i ∙ ap (λ (b : Bool). has_bit (get_or xs n 0) i || (b && has_bit bits i)) (sym e)
    go n i false e =
        let apart : n ≡ k → ⊥ = λ same. grind (arith, nat_tests) in
        ap (λ (m : ℕ). has_bit m i) (get_or-set_other xs k n v 0 apart) ∙ off (has_bit (get_or xs n 0) i) ∙ ap (λ (b : Bool). has_bit (get_or xs n 0) i || (b && has_bit bits i)) (sym e)

-- Masks that meet.

none_below : (n : ℕ) (f : ℕ → Bool) → some_below n f ≡ false → (i : ℕ) → i < n → f i ≡ false
unfolding some_below
none_below zero f e i h = absurd (omega arith)
none_below (suc n) f e i h = go (nat_eq i n) refl (none_below n f (or-right (f n) (some_below n f) e) i)
  where
    go : (b : Bool) → nat_eq i n ≡ b → (i < n → f i ≡ false) → f i ≡ false
    go true is later = let same : i ≡ n = grind (arith, nat_tests) in ap f same ∙ or-left (f n) (some_below n f) e
    go false is later = later (grind (arith, nat_tests))

some_there : (n : ℕ) (f : ℕ → Bool) → some_below n f ≡ true → (i : ℕ) × (f i ≡ true)
unfolding some_below
some_there zero f e = absurd cc
some_there (suc n) f e = go (f n) refl (some_there n f) e
  where
    go : (b : Bool) → f n ≡ b → (some_below n f ≡ true → (i : ℕ) × (f i ≡ true)) → (b || some_below n f) ≡ true → (i : ℕ) × (f i ≡ true)
    go true is later k = (n, is)
    go false is later k = later k

no_bit : (x i : ℕ) → has_bit x i ≡ false → bit_at x i ≡ 0
no_bit x i e = let h : bit_at x i < 2 = bit_at-lt x i in grind (arith, nat_tests)

abbrev both : ℕ → ℕ → ℕ → Bool
both a b i = has_bit a i && has_bit b i

pub meet_masks : (a b : ℕ) → a < 2 ^ 128 → not (nat_eq (bit_and a b) 0) ≡ some_below 128 (λ i. has_bit a i && has_bit b i)
meet_masks a b small = go (some_below 128 (both a b)) refl
  where
    h : bit_and a b < 2 ^ 128
    h = let le : bit_and a b ≤ a = and_le_l a b in omega arith

    go : (s : Bool) → some_below 128 (both a b) ≡ s → not (nat_eq (bit_and a b) 0) ≡ some_below 128 (both a b)
    go false e =
        let bits : (i : ℕ) → i < 128 → bit_at (bit_and a b) i ≡ bit_at 0 i = λ i k. no_bit (bit_and a b) i (has_and a b i ∙ none_below 128 (both a b) e i k) ∙ sym (bit_at-zero i) in
        let none : bit_and a b ≡ 0 = same_from_bits_below 128 (bit_and a b) 0 h (omega arith) bits in
        ap (λ (x : ℕ). not (nat_eq x 0)) none ∙ sym e
    go true e =
        let there : (i : ℕ) × (both a b i ≡ true) = some_there 128 (both a b) e in
        some (nat_eq (bit_and a b) 0) refl there ∙ sym e
      where
        some : (z : Bool) → nat_eq (bit_and a b) 0 ≡ z → ((i : ℕ) × (both a b i ≡ true)) → not (nat_eq (bit_and a b) 0) ≡ true
        some true is there =
            let zeros : bit_and a b ≡ 0 = grind (arith, nat_tests) in
            let t : has_bit (bit_and a b) there.0 ≡ true = has_and a b there.0 ∙ there.1 in
            let f : has_bit (bit_and a b) there.0 ≡ false = ap (λ (x : ℕ). has_bit x there.0) zeros ∙ has_none there.0 in
            absurd cc
        some false is there = ap not is

-- all bits of a signal

ones : (i : ℕ) (b : Bool) → nat_lt i 128 ≡ b → has_bit (2 ^ 128 - 1) i ≡ b
ones i true e = ap (λ (x : ℕ). nat_eq x 1) (bit_at_ones 128 i (grind (arith, nat_tests)))
ones i false e = ap (λ (x : ℕ). nat_eq x 1) (bit_at_ones_above 128 i (grind (arith, nat_tests)))

pub whole_mask : (k : ℕ) → mask_bits k (2 ^ 128 - 1) ≡ whole_signal k
whole_mask k = fun_ext (λ n. fun_ext (λ i. ap (λ (b : Bool). nat_eq n k && b) (ones i (nat_lt i 128) refl)))
