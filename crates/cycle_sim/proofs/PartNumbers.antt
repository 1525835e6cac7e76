-- The numbers of parts.
use Rattle.cycle_sim.proofs.Common.{◌≡◌, ℕ, zero, suc, ◌+◌, ◌-◌, ◌*◌, ◌/◌, ◌%◌, ◌^◌, ◌<◌, ◌≤◌, Bool, true, false, List, [], ◌∷◌, ◌++◌, length, take, drop, replicate, bit_and, get_or, refl, sym, ◌∙◌}
use Rattle.cycle_sim.proofs.Common.{ap, subst, arith, and_mask, pow_pos, pow-add, shr_high, mul-le, shl_whole, map-append, take-map, drop-map, take-append-drop, length-take-le, length-take, take_all}
use Rattle.cycle_sim.proofs.Common.{mod-eq_of_lt, add-mul-mod_self_left, pow-le-pow_right, Bit, Fixed, number, Nets, bit_value, values, port_numbers, length-values, number-fits, number-append}
use Rattle.cycle_sim.proofs.Common.{number-zeros, number-ones, number-drop, Source, Constant, Driver, Part, source_bits, part_bits, all_bits, AllWhole, source_number, part_number, parts_number, total}

-- the greatest number of 128 bits, shifted down
ones-at : (w k : ℕ) → w + k ≡ 128 → 340282366920938463463374607431768211455 / 2 ^ k ≡ 2 ^ w - 1
ones-at w k e =
    let p : 2 ^ 128 ≡ 2 ^ w * 2 ^ k = ap (λ (j : ℕ). 2 ^ j) (sym e) ∙ pow-add 2 w k in
    let some = pow_pos w in
    let more = pow_pos k in
    let one : 2 ^ w - 1 + 1 ≡ 2 ^ w = omega (arith, some) in
    let f : (2 ^ w - 1 + 1) * 2 ^ k ≡ 2 ^ w * 2 ^ k = ap (λ (x : ℕ). x * 2 ^ k) one in
    let whole : 340282366920938463463374607431768211455 ≡ (2 ^ w - 1) * 2 ^ k + (2 ^ k - 1) = omega (arith, f, p, more) in
    ap (λ (x : ℕ). x / 2 ^ k) whole ∙ shr_high (2 ^ w - 1) k (2 ^ k - 1) (omega (arith, more))

pub ones-down : (w : ℕ) → w ≤ 128 → 340282366920938463463374607431768211455 / 2 ^ (128 - w) ≡ 2 ^ w - 1
ones-down w le = ones-at w (128 - w) (omega (arith, le))

pub pow-next : (k : ℕ) → 2 ^ suc k ≡ 2 * 2 ^ k
pow-next k = (let next : 1 + k ≡ suc k = omega arith in ap (λ (j : ℕ). 2 ^ j) (sym next) ∙ pow-add 2 1 k)

-- the low bits, by a mask
pub masked : (n w : ℕ) → w ≤ 128 → bit_and n (340282366920938463463374607431768211455 / 2 ^ (128 - w)) ≡ n % 2 ^ w
masked n w le = ap (bit_and n) (ones-down w le) ∙ and_mask n w

-- one number above another
pub stacked : (a b w t : ℕ) → a < 2 ^ w → b < 2 ^ t → a + b * 2 ^ w < 2 ^ (w + t)
stacked a b w t la lb =
    let m : (b + 1) * 2 ^ w ≤ 2 ^ t * 2 ^ w = mul-le (b + 1) (2 ^ w) (2 ^ t) (2 ^ w) (omega (arith, lb)) (omega arith) in
    let p : 2 ^ (t + w) ≡ 2 ^ t * 2 ^ w = pow-add 2 t w in
    let same : t + w ≡ w + t = omega arith in
    let q : 2 ^ (w + t) ≡ 2 ^ t * 2 ^ w = ap (λ (j : ℕ). 2 ^ j) (sym same) ∙ p in
    omega (arith, la, m, q)

-- what two parts come to, which fit 128 bits
pub record Stacks (a b w t : ℕ) : Type 0 where
  pub sum : a + b * 2 ^ w % 340282366920938463463374607431768211456 ≡ a + 2 ^ w * b
  pub fits : a + 2 ^ w * b < 2 ^ (w + t)
  pub small : a + 2 ^ w * b < 340282366920938463463374607431768211456

pub stacks : (a b w t : ℕ) → a < 2 ^ w → b < 2 ^ t → w + t ≤ 128 → Stacks a b w t
stacks a b w t la lb le =
    let turned : b * 2 ^ w ≡ 2 ^ w * b = omega arith in
    let fit : a + 2 ^ w * b < 2 ^ (w + t) = (let s = stacked a b w t la lb in omega (arith, s, turned)) in
    let most : 2 ^ (w + t) ≤ 2 ^ 128 = pow-le-pow_right {n = 2} (omega arith) {i = w + t} {j = 128} le in
    record {
      sum = ap (λ (x : ℕ). a + x) (shl_whole b t w 128 lb (omega (arith, le)) ∙ turned);
      fits = fit;
      small = omega (arith, fit, most);
    }

-- the first part, and the others
pub first-number : (table : List ℕ) (parts : List Part) (d : Part) → 1 ≤ length parts → parts_number table parts ≡ part_number table (get_or parts 0 d) + 2 ^ (get_or parts 0 d).width * parts_number table (take (length parts - 1) (drop 1 parts))
first-number table [] d some = absurd (omega (arith, some))
first-number table (part ∷ more) d some = rw (take_all (length (part ∷ more) - 1) more (omega arith)) refl

pub first-total : (parts : List Part) (d : Part) → 1 ≤ length parts → total parts ≡ (get_or parts 0 d).width + total (take (length parts - 1) (drop 1 parts))
first-total [] d some = absurd (omega (arith, some))
first-total (part ∷ more) d some = rw (take_all (length (part ∷ more) - 1) more (omega arith)) refl

number-cut : (n : ℕ) (bits : List Bool) → n ≤ length bits → number (take n bits) ≡ number bits % 2 ^ n
number-cut n bits le =
    let long : length (take n bits) ≡ n = length-take-le n bits le in
    let split : number bits ≡ number (take n bits) + 2 ^ n * number (drop n bits) = ap number (sym (take-append-drop n bits)) ∙ number-append (take n bits) (drop n bits) ∙ ap (λ (k : ℕ). number (take n bits) + 2 ^ k * number (drop n bits)) long in
    let low : number (take n bits) < 2 ^ n = subst (λ (k : ℕ). number (take n bits) < 2 ^ k) long (number-fits (take n bits)) in
    sym (ap (λ (x : ℕ). x % 2 ^ n) split ∙ add-mul-mod_self_left (number (take n bits)) (2 ^ n) (number (drop n bits)) ∙ mod-eq_of_lt low)

-- Bits and the table.

values-constant : (nets : Nets) (w : ℕ) (b : Bool) → values nets (replicate w (Fixed b)) ≡ replicate w b
values-constant nets zero b = refl
values-constant nets (suc w) b = ap (λ (l : List Bool). b ∷ l) (values-constant nets w b)

pub driver-number : (nets : Nets) (drivers : List (List Bit)) (d : ℕ) → number (values nets (get_or drivers d [])) ≡ get_or (port_numbers nets drivers) d 0
driver-number nets [] d = refl
driver-number nets (bits ∷ more) zero = refl
driver-number nets (bits ∷ more) (suc d) = driver-number nets more d

source-number : (nets : Nets) (drivers : List (List Bit)) (table : List ℕ) (source : Source) (w : ℕ) → port_numbers nets drivers ≡ table → length (source_bits drivers source w) ≡ w → number (values nets (source_bits drivers source w)) ≡ source_number table source w
source-number nets drivers table (Constant true) w is whole = ap number (values-constant nets w true) ∙ (let all = number-ones w in omega (arith, all))
source-number nets drivers table (Constant false) w is whole = ap number (values-constant nets w false) ∙ number-zeros w
source-number nets drivers table (Driver place) w is whole =
    let bits : List Bit = get_or drivers place.driver [] in
    let above : List Bit = drop place.bit bits in
    let wide : w ≤ length (values nets above) = (let t = length-take w above in let l = length-values nets above in omega (arith, t, l, whole)) in
    ap number (sym (take-map (bit_value nets) w above))
    ∙ number-cut w (values nets above) wide
    ∙ ap (λ (x : List Bool). number x % 2 ^ w) (sym (drop-map (bit_value nets) place.bit bits))
    ∙ ap (λ (x : ℕ). x % 2 ^ w) (number-drop place.bit (values nets bits))
    ∙ ap (λ (x : ℕ). x / 2 ^ place.bit % 2 ^ w) (driver-number nets drivers place.driver)
    ∙ ap (λ (t : List ℕ). get_or t place.driver 0 / 2 ^ place.bit % 2 ^ w) is

-- what is read at parts is the number at their bits
pub parts-number : (nets : Nets) (drivers : List (List Bit)) (table : List ℕ) (parts : List Part) → port_numbers nets drivers ≡ table → AllWhole drivers parts → parts_number table parts ≡ number (values nets (all_bits drivers parts))
parts-number nets drivers table [] is whole = refl
parts-number nets drivers table (part ∷ more) is whole =
    let bits : List Bit = part_bits drivers part in
    let rest : List Bit = all_bits drivers more in
    let long : length (values nets bits) ≡ part.width = length-values nets bits ∙ whole.1 in
    let here : number (values nets bits) ≡ part_number table part = source-number nets drivers table part.first part.width is whole.1 in
    let above : parts_number table more ≡ number (values nets rest) = parts-number nets drivers table more is whole.2 in
    let split : number (values nets (bits ++ rest)) ≡ number (values nets bits) + 2 ^ length (values nets bits) * number (values nets rest) = ap number (map-append (bit_value nets) bits rest) ∙ number-append (values nets bits) (values nets rest) in
    sym (split ∙ ap (λ (k : ℕ). number (values nets bits) + 2 ^ k * number (values nets rest)) long ∙ ap (λ (x : ℕ). x + 2 ^ part.width * number (values nets rest)) here ∙ ap (λ (x : ℕ). part_number table part + 2 ^ part.width * x) (sym above))
