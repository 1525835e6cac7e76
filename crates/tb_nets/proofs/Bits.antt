-- Bits of numbers.
use Rattle.tb_nets.proofs.Common.{◌≡◌, zero, suc, ℕ, ◌-◌, ◌^◌, ◌/◌, ◌%◌, ◌<◌, ◌≤◌, min, true, false, nat_eq, nat_lt, refl, sym, ap, ◌∙◌, ◌⊎◌, inl, inr, arith, cases_lt, nat_tests, eqb_tells, has_bit}
use Rattle.tb_nets.proofs.Common.{shares}
use Rattle.std.specs.Int.{bit_at}
use Rattle.std.specs.Int.Bits.{bit_and}
use Rattle.std.proofs.lemmas.Nat.Bits.{bit_at_and, bit_at-lt, bit_at-suc, bit_at_lowest, bit_at-zero, bit_at_ones, bit_at_ones_above}

is_below : (i w : ℕ) → i < w → true ≡ nat_lt i w
is_below i w h = grind (arith, nat_tests)

is_above : (i w : ℕ) → w ≤ i → false ≡ nat_lt i w
is_above i w h = grind (arith, nat_tests)

pub lowest_bits : (width i : ℕ) → has_bit (2 ^ width - 1) i ≡ nat_lt i width
lowest_bits width i = elim (cases_lt i width) [
  | inl h ↦ ap (λ (x : ℕ). nat_eq x 1) (bit_at_ones width i h) ∙ is_below i width h
  | inr h ↦ ap (λ (x : ℕ). nat_eq x 1) (bit_at_ones_above width i h) ∙ is_above i width h
]

-- a bit is 1 where it is had
pub bit_is : (a i : ℕ) → has_bit a i ≡ true → bit_at a i ≡ 1
bit_is a i h = grind (arith, nat_tests)

pub has_is : (a i : ℕ) → bit_at a i ≡ 1 → has_bit a i ≡ true
has_is a i e = ap (λ (x : ℕ). nat_eq x 1) e

parity : (n : ℕ) → (n % 2 ≡ 0) ⊎ (n % 2 ≡ 1)
parity n = grind arith

-- a number that is not 0 has a bit
some_bit : (k n : ℕ) → n ≤ k → 0 < n → (i : ℕ) × (bit_at n i ≡ 1)
some_bit zero n h p = absurd (omega arith)
some_bit (suc k) n h p = elim (parity n) [
  | inr odd ↦ (0, bit_at_lowest n ∙ odd)
  | inl even ↦
      let half : n / 2 ≤ k = omega (arith, even) in
      let more : 0 < n / 2 = omega (arith, even) in
      let rest = some_bit k (n / 2) half more in
      (suc rest.0, bit_at-suc n rest.0 ∙ rest.1)
]

min_one : (x y : ℕ) → x < 2 → y < 2 → min x y ≡ 1 → (x ≡ 1) × (y ≡ 1)
min_one x y a b e = (omega arith, omega arith)

positive : (n : ℕ) → nat_eq n 0 ≡ false → 0 < n
positive n e = grind (arith, nat_tests)

-- numbers that share a bit
pub shared_bit : (a b : ℕ) → shares a b ≡ true → (i : ℕ) × (has_bit a i ≡ true) × (has_bit b i ≡ true)
shared_bit a b h = elim (eqb_tells (bit_and a b) 0) [
  | inl same ↦ absurd (let e : shares a b ≡ false = rw same.0 refl in cc)
  | inr other ↦
      let found = some_bit (bit_and a b) (bit_and a b) (omega arith) (positive (bit_and a b) other.0) in
      let both = min_one (bit_at a found.0) (bit_at b found.0) (bit_at-lt a found.0) (bit_at-lt b found.0) (sym (bit_at_and a b found.0) ∙ found.1) in
      (found.0, has_is a found.0 both.0, has_is b found.0 both.1)
]

pub bit_shared : (a b i : ℕ) → has_bit a i ≡ true → has_bit b i ≡ true → shares a b ≡ true
bit_shared a b i h k = elim (eqb_tells (bit_and a b) 0) [
  | inl same ↦ absurd (let p : bit_at (bit_and a b) i ≡ 0 = ap (λ (x : ℕ). bit_at x i) same.1 ∙ bit_at-zero i in let q = bit_at_and a b i in let r = bit_is a i h in let s = bit_is b i k in omega (arith, p, q, r, s))
  | inr other ↦ rw other.0 refl
]
