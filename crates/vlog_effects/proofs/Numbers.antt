-- The bits of a number.
use Rattle.vlog_effects.proofs.Common.{◌≡◌, ℕ, zero, suc, ◌+◌, ◌*◌, ◌/◌, ◌%◌, ◌^◌, ◌<◌, Bool, true, false, List, [], ◌∷◌, length, get_or, refl, ◌∙◌, ap, arith, pow-succ', number, bits_of}
use Rattle.std.specs.Int.{bit_at}
use Rattle.std.proofs.lemmas.Nat.Bits.{bit_at-zero, bit_at-suc, bit_at_lowest}

abbrev pub bit_value : Bool → ℕ
bit_value true = 1
bit_value false = 0

pub number-small : (bits : List Bool) → number bits < 2 ^ length bits
number-small [] = omega arith
number-small (true ∷ bits) = let h = number-small bits in omega (arith, pow-succ' 2 (length bits))
number-small (false ∷ bits) = let h = number-small bits in omega (arith, pow-succ' 2 (length bits))

odd : (k : ℕ) → ((1 + 2 * k) % 2 ≡ 1) × ((1 + 2 * k) / 2 ≡ k)
odd k = (omega arith, omega arith)

even : (k : ℕ) → ((2 * k) % 2 ≡ 0) × ((2 * k) / 2 ≡ k)
even k = (omega arith, omega arith)

pub bit_at-number : (bits : List Bool) (i : ℕ) → bit_at (number bits) i ≡ bit_value (get_or bits i false)
bit_at-number [] i = bit_at-zero i
bit_at-number (true ∷ bits) zero = bit_at_lowest (1 + 2 * number bits) ∙ (odd (number bits)).0
bit_at-number (false ∷ bits) zero = bit_at_lowest (2 * number bits) ∙ (even (number bits)).0
bit_at-number (true ∷ bits) (suc i) = bit_at-suc (1 + 2 * number bits) i ∙ ap (λ (k : ℕ). bit_at k i) (odd (number bits)).1 ∙ bit_at-number bits i
bit_at-number (false ∷ bits) (suc i) = bit_at-suc (2 * number bits) i ∙ ap (λ (k : ℕ). bit_at k i) (even (number bits)).1 ∙ bit_at-number bits i

pub length-bits_of : (width v : ℕ) → length (bits_of width v) ≡ width
length-bits_of zero v = refl
length-bits_of (suc width) v = ap suc (length-bits_of width (v / 2))
