-- Bits of numbers, and values of bits.
use Rattle.flat_runs.proofs.Common.{◌≡◌, ℕ, zero, suc, ◌+◌, ◌*◌, ◌/◌, ◌%◌, ◌<◌, Bool, true, false, List, [], ◌∷◌, slice_get, Some, refl, ◌∙◌, ap, arith, bit_at, bit_at-lt, bit_at_lowest, bit_at-suc}
use Rattle.flat_runs.proofs.Common.{Bit, Fixed, Net, digit, number, Nets, bit_value, values}

pub half_of : (b : Bool) (n : ℕ) → (digit b + 2 * n) / 2 ≡ n
half_of true n = omega arith
half_of false n = omega arith

pub low_of : (b : Bool) (n : ℕ) → (digit b + 2 * n) % 2 ≡ digit b
low_of true n = omega arith
low_of false n = omega arith

digit_of : (n : ℕ) → n < 2 → (b : Bool) × (n ≡ digit b)
digit_of zero small = (false, refl)
digit_of (suc zero) small = (true, refl)
digit_of (suc (suc n)) small = absurd (omega arith)

-- a bit of a number is 0 or 1
pub bit_digit : (n i : ℕ) → (b : Bool) × (bit_at n i ≡ digit b)
bit_digit n i = digit_of (bit_at n i) (bit_at-lt n i)

pub digit_injective : (a b : Bool) → digit a ≡ digit b → a ≡ b
digit_injective true true e = refl
digit_injective false false e = refl
digit_injective true false e = absurd (omega arith)
digit_injective false true e = absurd (omega arith)

-- bit i of the number is the value of bit i
pub value_at : (nets : Nets) (bits : List Bit) (i n : ℕ) → slice_get bits i ≡ Some (Net n) → bit_at (number (values nets bits)) i ≡ digit (nets n)
value_at nets [] i n e = absurd cc
value_at nets (b ∷ more) zero n e =
    let is : b ≡ Net n = cc in
    bit_at_lowest (number (values nets (b ∷ more))) ∙ low_of (bit_value nets b) (number (values nets more)) ∙ ap (λ (x : Bit). digit (bit_value nets x)) is
value_at nets (b ∷ more) (suc i) n e =
    bit_at-suc (number (values nets (b ∷ more))) i
    ∙ ap (λ (x : ℕ). bit_at x i) (half_of (bit_value nets b) (number (values nets more)))
    ∙ value_at nets more i n e

-- nets that agree on the bits give them the same values
pub values_same : (a b : Nets) (bits : List Bit) → ((i n : ℕ) → slice_get bits i ≡ Some (Net n) → a n ≡ b n) → values a bits ≡ values b bits
values_same a b [] h = refl
values_same a b (Fixed v ∷ more) h = ap (λ (t : List Bool). v ∷ t) (values_same a b more (λ i n at. h (suc i) n at))
values_same a b (Net m ∷ more) h =
    let head : a m ≡ b m = h zero m refl in
    let tail : values a more ≡ values b more = values_same a b more (λ i n at. h (suc i) n at) in
    cc
