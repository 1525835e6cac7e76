use Rattle.cycle_sim.proofs.Common.{◌≡◌, ℕ, ◌+◌, ◌-◌, ◌*◌, ◌^◌, ◌<◌, ◌≤◌, Bool, false, List, [], ◌∷◌, length, take, drop, get_or, refl, ap, subst, arith, pow_pos, take_all, pow-le-pow_right, Bit}
use Rattle.cycle_sim.proofs.Common.{Fixed, digit, number, Nets, bit_value, values}
use Rattle.cycle_sim.proofs.PartNumbers.{pow-next}
use Rattle.cycle_sim.proofs.wiring.+fixed_number.Goals as goal

abbrev rest : List Bit → List Bit
rest bits = take (length bits - 1) (drop 1 bits)

rest-is : (b : Bit) (more : List Bit) → rest (b ∷ more) ≡ more
rest-is b more = take_all (length (b ∷ more) - 1) more (omega arith)

no-bits : (nets : Nets) (bits : List Bit) → length bits < 1 → number (values nets bits) ≡ 0
no-bits nets [] none = refl
no-bits nets (b ∷ more) none = absurd (omega (arith, none))

first-bit : (nets : Nets) (bits : List Bit) (b : Bool) (n : ℕ) → 1 ≤ length bits → get_or bits 0 (Fixed false) ≡ Fixed b → number (values nets (rest bits)) ≡ n → number (values nets bits) ≡ digit b + 2 * n
first-bit nets [] b n some is value = absurd (omega (arith, some))
first-bit nets (x ∷ more) b n some is value =
    let here : digit (bit_value nets x) ≡ digit b = ap (λ (y : Bit). digit (bit_value nets y)) is in
    let above : number (values nets more) ≡ n = subst (λ (l : List Bit). number (values nets l) ≡ n) (rest-is x more) value in
    omega (arith, here, above)

fits-all : (bits : List Bit) (n : ℕ) → 1 ≤ length bits → n < 2 ^ length (rest bits) → 2 * n + 1 < 2 ^ length bits
fits-all [] n some small = absurd (omega (arith, some))
fits-all (x ∷ more) n some small =
    let low : n < 2 ^ length more = subst (λ (l : List Bit). n < 2 ^ length l) (rest-is x more) small in
    let twice = pow-next (length more) in
    omega (arith, low, twice)

small-all : (bits : List Bit) (n : ℕ) → 1 ≤ length bits → length bits ≤ 128 → n < 2 ^ length (rest bits) → 2 * n + 1 < 340282366920938463463374607431768211456
small-all bits n some few small =
    let fits = fits-all bits n some small in
    let most : 2 ^ length bits ≤ 2 ^ 128 = pow-le-pow_right {n = 2} (omega arith) {i = length bits} {j = 128} few in
    omega (arith, fits, most)

pub overflow_mul-result : goal.overflow_mul-result
overflow_mul-result t c = (let s = small-all c.args.bits.now c.in_ok-above-in-Fixed.above (omega (arith, c.in-len1-up.len_at_least)) c.requires c.in_ok-above-in-Fixed.ensures.fits in omega (arith, s))

pub overflow_add-result : goal.overflow_add-result
overflow_add-result t c = (let s = small-all c.args.bits.now c.in_ok-above-in-Fixed.above (omega (arith, c.in-len1-up.len_at_least)) c.requires c.in_ok-above-in-Fixed.ensures.fits in omega (arith, s))

pub overflow_mul-result-else-bit : goal.overflow_mul-result-else-bit
overflow_mul-result-else-bit t c = (let s = small-all c.args.bits.now c.in_ok-above-in-Fixed.above (omega (arith, c.in-len1-up.len_at_least)) c.requires c.in_ok-above-in-Fixed.ensures.fits in omega (arith, s))

pub returns-in-empty-clause-value : goal.returns-in-empty-clause-value
returns-in-empty-clause-value t c = λ nets. no-bits nets c.args.bits.now (omega (arith, c.in-empty.len_below))

pub returns-in-empty-clause-fits : goal.returns-in-empty-clause-fits
returns-in-empty-clause-fits t c = pow_pos (length c.args.bits.now)

pub returns-then-bit-clause-value : goal.returns-then-bit-clause-value
returns-then-bit-clause-value t c = λ nets.
    let v = first-bit nets c.args.bits.now c.in-Fixed.bit c.in_ok-above-in-Fixed.above (omega (arith, c.in-len1-up.len_at_least)) c.in-Fixed.is (c.in_ok-above-in-Fixed.ensures.value nets) in
    let one : digit c.in-Fixed.bit ≡ 1 = ap digit c.if-bit.true in
    omega (arith, v, one)

pub returns-then-bit-clause-fits : goal.returns-then-bit-clause-fits
returns-then-bit-clause-fits t c = fits-all c.args.bits.now c.in_ok-above-in-Fixed.above (omega (arith, c.in-len1-up.len_at_least)) c.in_ok-above-in-Fixed.ensures.fits

pub returns-else-bit-clause-value : goal.returns-else-bit-clause-value
returns-else-bit-clause-value t c = λ nets.
    let v = first-bit nets c.args.bits.now c.in-Fixed.bit c.in_ok-above-in-Fixed.above (omega (arith, c.in-len1-up.len_at_least)) c.in-Fixed.is (c.in_ok-above-in-Fixed.ensures.value nets) in
    let none : digit c.in-Fixed.bit ≡ 0 = ap digit c.if-bit.false in
    omega (arith, v, none)

pub returns-else-bit-clause-fits : goal.returns-else-bit-clause-fits
returns-else-bit-clause-fits t c = (let f = fits-all c.args.bits.now c.in_ok-above-in-Fixed.above (omega (arith, c.in-len1-up.len_at_least)) c.in_ok-above-in-Fixed.ensures.fits in omega (arith, f))
