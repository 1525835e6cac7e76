-- A table of values as a function of the net.
use Rattle.step_trials.proofs.Common.{◌≡◌, ℕ, ◌+◌, ◌*◌, ◌-◌, ◌/◌, ◌%◌, ◌<◌, ◌≤◌, ◌^◌, Bool, true, false, List, [], ◌∷◌, ◌++◌, length, map, take, drop, get_or, Option, Some, refl, subst, arith}
use Rattle.step_trials.proofs.Common.{take_all, Bit, Fixed, Net, RawNetlist, digit, number, low_bits, Nets, bit_value, values, bits_at, q_bits, ports_seen, plain, times, times_at, Plan, IsSound}
use Rattle.step_trials.proofs.Common.{bits-below, MatchOption, IsSome, joined, free_list}
use Rattle.std.proofs.Math.Nat.{pow-le-pow_right}
use Rattle.netlist_core.specs.Below.{AllBelow}
use Rattle.std.specs.Prelude.{None}
use Rattle.mcy_base.specs.declared.word.Word.{Word}
use Rattle.mcy_base.specs.Words.{IsWord}

-- twice a number of fewer than 128 bits fits 128 bits
pub small : (r k : ℕ) → r < 2 ^ k → k < 128 → 1 + 2 * r < 2 ^ 128
small r k fits short = let e : 2 ^ k ≤ 2 ^ 127 = pow-le-pow_right {n = 2} (omega arith) {i = k} {j = 127} (omega arith) in omega arith

-- a slice's number, from its first bit and the rest
pub number-first : (nets : Nets) (bits : List Bit) → 1 ≤ length bits → number (values nets bits) ≡ digit (bit_value nets (get_or bits 0 (Fixed false))) + 2 * number (values nets (take (length bits - 1) (drop 1 bits)))
number-first nets [] some = absurd (omega arith)
number-first nets (bit ∷ more) some = rw (take_all (length (bit ∷ more) - 1) more (omega arith)) refl

-- every reader reads the values
pub plain-ports : (nets : Nets) (c p : ℕ) (ports : List (List Bit)) → map (values nets) ports ≡ ports_seen (plain nets) c p ports
plain-ports nets c p [] = refl
plain-ports nets c p (bits ∷ more) = (let rest = plain-ports nets c (p + 1) more in cc)

-- the bits of their number are they
pub bits-number : (bits : List Bool) → low_bits (length bits) (number bits) ≡ bits
unfolding low_bits
bits-number [] = refl
bits-number (true ∷ more) =
    let odd : (1 + 2 * number more) % 2 ≡ 1 = omega arith in
    let half : (1 + 2 * number more) / 2 ≡ number more = omega arith in
    rw (odd, half, bits-number more) refl
bits-number (false ∷ more) =
    let even : (0 + 2 * number more) % 2 ≡ 0 = omega arith in
    let half : (0 + 2 * number more) / 2 ≡ number more = omega arith in
    rw (even, half, bits-number more) refl

-- Bits that are driven are in the table.

times-append : (n : ℕ) (xs ys : List Bit) → times n (xs ++ ys) ≡ times n xs + times n ys
times-append n [] ys = omega arith
times-append n (Fixed b ∷ xs) ys = times-append n xs ys
times-append n (Net m ∷ xs) ys = (let rest = times-append n xs ys in omega (arith, rest))

times-joined : (n : ℕ) (ports : List (List Bit)) → times n (joined ports) ≡ times_at n ports
times-joined n [] = refl
times-joined n (bits ∷ more) = (let rest = times-joined n more in omega (arith, rest, times-append n bits (joined more)))

free-times : (n : ℕ) (netlist : RawNetlist) → times n (free_list netlist) ≡ times_at n (bits_at netlist.inputs) + times_at n (q_bits netlist.registers)
free-times n netlist =
    let ins : List Bit = joined (bits_at netlist.inputs) in
    let qs : List Bit = joined (q_bits netlist.registers) in
    omega (arith, times-append n ins qs, times-joined n (bits_at netlist.inputs), times-joined n (q_bits netlist.registers))

pub free_below : (plan : Plan) → IsSound plan → AllBelow plan.nets (free_list plan.raw)
free_below plan sound = bits-below plan.nets (free_list plan.raw) (λ n some. sound.below n (omega (arith, some, free-times n plan.raw)))

-- Words.

pub some-word : (o : Option Word) (w n : ℕ) → IsWord w n → MatchOption o (¬ IsWord w n) (λ x. (x.width ≡ w) × (x.bits ≡ n)) → IsSome o
some-word None w n is match = absurd (match is)
some-word (Some word) w n is match = refl

pub word-parts : (o : Option Word) (word : Word) (w n : ℕ) → o ≡ Some word → MatchOption o (¬ IsWord w n) (λ x. (x.width ≡ w) × (x.bits ≡ n)) → (word.width ≡ w) × (word.bits ≡ n)
word-parts o word w n is match = subst (λ (x : Option Word). MatchOption x (¬ IsWord w n) (λ x. (x.width ≡ w) × (x.bits ≡ n))) is match
