-- Bits of selects, and bits side by side.
use Rattle.elab_expr.proofs.Common.{◌≡◌, ℕ, zero, suc, ◌+◌, ◌-◌, ◌*◌, ◌/◌, ◌%◌, ◌<◌, ◌≤◌, ◌^◌, ℤ, pos, negsuc, ◌-ℤ◌, ◌+ℤ◌, min, Bool, true, false, nat_le, replicate, List, [], ◌∷◌, ◌++◌, length, refl}
use Rattle.elab_expr.proofs.Common.{sym, ap, ◌∙◌, arith, subst, ints, pow-suc, mod-one, nat_tests, length-append, mod-pow-add, shr-shr, shl-shr, pow-add, Bit, Fixed, Net, number, Nets, bit_value}
use Rattle.elab_expr.proofs.Common.{values, Bound, window, bound_integer, repeated, AllBelow, fill_bit, bit_or_0, window_digit, below_append}
use Rattle.netlist_core.specs.Numbers.{digit}
use Rattle.elab_expr.proofs.Bits.{digit-small, number-push}

-- a digit of a number is that of its bit
pub digit_at : (nets : Nets) (bits : List Bit) (i : ℕ) → digit (bit_value nets (bit_or_0 bits i)) ≡ number (values nets bits) / 2 ^ i % 2
digit_at nets [] i = grind arith
digit_at nets (b ∷ more) zero =
    let small : digit (bit_value nets b) ≤ 1 = digit-small (bit_value nets b) in
    omega (arith, small)
digit_at nets (b ∷ more) (suc i) =
    let small : digit (bit_value nets b) ≤ 1 = digit-small (bit_value nets b) in
    let half : (digit (bit_value nets b) + 2 * number (values nets more)) / 2 ≡ number (values nets more) = omega (arith, small) in
    let one : 1 + i ≡ suc i = omega arith in
    digit_at nets more i ∙ ap (λ (m : ℕ). m / 2 ^ i % 2) (sym half) ∙ ap (λ (m : ℕ). m % 2) (shr-shr (digit (bit_value nets b) + 2 * number (values nets more)) 1 i) ∙ ap (λ (m : ℕ). (digit (bit_value nets b) + 2 * number (values nets more)) / 2 ^ m % 2) one

-- a bit that is one of the bits, or 0
pub below_at : (n : ℕ) (bits : List Bit) (i : ℕ) → AllBelow n bits → AllBelow n (bit_or_0 bits i ∷ [])
below_at n [] i h = tt
below_at n (Fixed b ∷ more) zero h = tt
below_at n (Net k ∷ more) zero h = (h.0, tt)
below_at n (Fixed b ∷ more) (suc i) h = below_at n more i h
below_at n (Net k ∷ more) (suc i) h = below_at n more i h.1

-- one digit more of a number
pub digit_more : (m k : ℕ) → m % 2 ^ k + m / 2 ^ k % 2 * 2 ^ k ≡ m % 2 ^ (k + 1)
digit_more m k = let one : 1 + k ≡ k + 1 = omega arith in let e : m % 2 ^ (1 + k) ≡ m / 2 ^ k % 2 ^ 1 * 2 ^ k + m % 2 ^ k = mod-pow-add m 1 k in omega (arith, e, ap (λ (j : ℕ). m % 2 ^ j) one)

pub window_more : (z : ℤ) (k v : ℕ) → window z k v + window_digit z k v * 2 ^ k ≡ window z (k + 1) v
window_more (pos at) k v = digit_more (v / 2 ^ at) k
window_more (negsuc n) k v = digit_more (v * 2 ^ (n + 1)) k

-- Digits of a number that is moved.

doubled : (v p : ℕ) → v * (p * 2) % 2 ≡ 0
doubled v p = let e : v * (p * 2) ≡ v * p * 2 = grind arith in omega (arith, e)

raised_0 : (v s k j : ℕ) → s ≡ suc j + k → v * 2 ^ s / 2 ^ k % 2 ≡ 0
raised_0 v s k j split =
    let d : 2 ^ s ≡ 2 ^ suc j * 2 ^ k = ap (λ (m : ℕ). 2 ^ m) split ∙ pow-add 2 (suc j) k in
    let e : v * 2 ^ s ≡ v * 2 ^ suc j * 2 ^ k = ap (λ (m : ℕ). v * m) d ∙ again v (2 ^ suc j) (2 ^ k) in
    ap (λ (m : ℕ). m / 2 ^ k % 2) e ∙ ap (λ (m : ℕ). m % 2) (shl-shr (v * 2 ^ suc j) k) ∙ ap (λ (m : ℕ). v * m % 2) (pow-suc 2 j) ∙ doubled v (2 ^ j)
  where
    again : (x y z : ℕ) → x * (y * z) ≡ x * y * z
    again x y z = grind arith

raised_above : (v s k j : ℕ) → k ≡ s + j → v * 2 ^ s / 2 ^ k ≡ v / 2 ^ j
raised_above v s k j split =
    ap (λ (m : ℕ). v * 2 ^ s / 2 ^ m) split ∙ sym (shr-shr (v * 2 ^ s) s j) ∙ ap (λ (m : ℕ). m / 2 ^ j) (shl-shr v s)

-- digit k of a select is digit j of the number, or there is none
pub digit_from : (z : ℤ) (k v j : ℕ) → z +ℤ pos k ≡ pos j → window_digit z k v ≡ v / 2 ^ j % 2
digit_from (pos at) k v j e = let f : at + k ≡ j = omega (arith, ints, e) in ap (λ (m : ℕ). m % 2) (shr-shr v at k) ∙ ap (λ (m : ℕ). v / 2 ^ m % 2) f
digit_from (negsuc n) k v j e = let f : k ≡ n + 1 + j = omega (arith, ints, e) in ap (λ (m : ℕ). m % 2) (raised_above v (n + 1) k j f)

pub digit_none : (z : ℤ) (k v j : ℕ) → z +ℤ pos k ≡ negsuc j → window_digit z k v ≡ 0
digit_none (pos at) k v j e = absurd (omega (arith, ints, e))
digit_none (negsuc n) k v j e = raised_0 v (n + 1) k j (omega (arith, ints, e))

pub past_end : (bits : List Bit) (i : ℕ) → length bits ≤ i → bit_or_0 bits i ≡ Fixed false
past_end [] i h = refl
past_end (b ∷ more) zero h = absurd (omega arith)
past_end (b ∷ more) (suc i) h = past_end more i (omega arith)

-- the bit at place j, where a select from z on has it as its bit k
pub selected : (nets : Nets) (bits : List Bit) (z : ℤ) (k j : ℕ) (b : Bit) → z +ℤ pos k ≡ pos j → b ≡ bit_or_0 bits j → digit (bit_value nets b) ≡ window_digit z k (number (values nets bits))
selected nets bits z k j b e is = ap (λ (x : Bit). digit (bit_value nets x)) is ∙ digit_at nets bits j ∙ sym (digit_from z k (number (values nets bits)) j e)

pub selected_past : (nets : Nets) (bits : List Bit) (z : ℤ) (k i j : ℕ) (b : Bit) → z +ℤ pos k ≡ pos j → length bits ≤ i → length bits ≤ j → b ≡ bit_or_0 bits i → digit (bit_value nets b) ≡ window_digit z k (number (values nets bits))
selected_past nets bits z k i j b e here there is = selected nets bits z k j b e (is ∙ past_end bits i here ∙ sym (past_end bits j there))

pub selected_0 : (nets : Nets) (z : ℤ) (k v j : ℕ) (b : Bit) → z +ℤ pos k ≡ negsuc j → b ≡ Fixed false → digit (bit_value nets b) ≡ window_digit z k v
selected_0 nets z k v j b e is = ap (λ (x : Bit). digit (bit_value nets x)) is ∙ sym (digit_none z k v j e)

-- Bits side by side.

pub number_append : (nets : Nets) (low high : List Bit) → number (values nets (low ++ high)) ≡ number (values nets high) * 2 ^ length low + number (values nets low)
number_append nets [] high = omega arith
number_append nets (b ∷ low) high =
    let e = number_append nets low high in
    let d : 2 ^ suc (length low) ≡ 2 ^ length low * 2 = pow-suc 2 (length low) in
    joined (digit (bit_value nets b)) (number (values nets low)) (number (values nets high)) (2 ^ length low) (2 ^ suc (length low)) (number (values nets (low ++ high))) e d
  where
    joined : (x v h p q t : ℕ) → t ≡ h * p + v → q ≡ p * 2 → x + 2 * t ≡ h * q + (x + 2 * v)
    joined x v h p q t e d = rw (e, d) (grind arith)

pub below_one : (n : ℕ) (found : List Bit) (b : Bit) (after : List Bit) → after ≡ found ++ b ∷ [] → AllBelow n found → AllBelow n (b ∷ []) → AllBelow n after
below_one n found b after is h k = subst (AllBelow n) (sym is) (below_append n found (b ∷ []) h k)

-- Places of selects.

pub down_none : (p : Bound) (low k : ℕ) → p.is_negative ≡ true → k < p.magnitude + low → bound_integer p -ℤ pos low +ℤ pos k ≡ negsuc (p.magnitude + low - k - 1)
down_none p low k e h = rw e (omega (arith, ints))

pub down_at : (p : Bound) (low k : ℕ) → p.is_negative ≡ true → p.magnitude + low ≤ k → bound_integer p -ℤ pos low +ℤ pos k ≡ pos (k - (p.magnitude + low))
down_at p low k e h = rw e (omega (arith, ints))

pub up_none : (p : Bound) (low k : ℕ) → p.is_negative ≡ false → p.magnitude + k < low → bound_integer p -ℤ pos low +ℤ pos k ≡ negsuc (low - (p.magnitude + k) - 1)
up_none p low k e h = rw e (omega (arith, ints))

pub up_at : (p : Bound) (low k : ℕ) → p.is_negative ≡ false → low ≤ p.magnitude + k → bound_integer p -ℤ pos low +ℤ pos k ≡ pos (p.magnitude + k - low)
up_at p low k e h = rw e (omega (arith, ints))

-- a place that is counted up to the type's end
pub saturated : (nets : Nets) (bits : List Bit) (p : Bound) (low k at : ℕ) (b : Bit) → p.is_negative ≡ false → low < 2 ^ 32 → length bits ≤ 128 → at ≡ min (p.magnitude + k) (2 ^ 128 - 1) → low ≤ at → b ≡ bit_or_0 bits (at - low) → digit (bit_value nets b) ≡ window_digit (bound_integer p -ℤ pos low) k (number (values nets bits))
saturated nets bits p low k at b e small short is_at above is = go (nat_le (p.magnitude + k) (2 ^ 128 - 1)) refl
  where
    go : (fits : Bool) → nat_le (p.magnitude + k) (2 ^ 128 - 1) ≡ fits → digit (bit_value nets b) ≡ window_digit (bound_integer p -ℤ pos low) k (number (values nets bits))
    go true f =
        let same : at ≡ p.magnitude + k = (let le : p.magnitude + k ≤ 2 ^ 128 - 1 = grind (arith, nat_tests) in omega (arith, le, is_at)) in
        selected nets bits (bound_integer p -ℤ pos low) k (p.magnitude + k - low) b (up_at p low k e (omega (arith, same))) (is ∙ ap (λ (m : ℕ). bit_or_0 bits (m - low)) same)
    go false f =
        let large : 2 ^ 128 - 1 < p.magnitude + k = grind (arith, nat_tests) in
        selected_past nets bits (bound_integer p -ℤ pos low) k (at - low) (p.magnitude + k - low) b (up_at p low k e (omega (arith, large))) (omega (arith, large, is_at)) (omega (arith, large)) is

-- Rounds of the loops.

pub window_none : (z : ℤ) (v : ℕ) → 0 ≡ window z 0 v
window_none (pos at) v = sym (mod-one (v / 2 ^ at))
window_none (negsuc n) v = sym (mod-one (v * 2 ^ (n + 1)))

pub window_push : (nets : Nets) (bits found after : List Bit) (z : ℤ) (k : ℕ) (b : Bit) → after ≡ found ++ b ∷ [] → length found ≡ k → number (values nets found) ≡ window z k (number (values nets bits)) → digit (bit_value nets b) ≡ window_digit z k (number (values nets bits)) → number (values nets after) ≡ window z (k + 1) (number (values nets bits))
window_push nets bits found after z k b is long same d =
    ap (λ (l : List Bit). number (values nets l)) is ∙ number-push nets found b
    ∙ ap (λ (m : ℕ). m + digit (bit_value nets b) * 2 ^ length found) same
    ∙ ap (λ (m : ℕ). window z k (number (values nets bits)) + digit (bit_value nets b) * 2 ^ m) long
    ∙ ap (λ (m : ℕ). window z k (number (values nets bits)) + m * 2 ^ k) d
    ∙ window_more z k (number (values nets bits))

-- a copy more of the same bits, under those that stand
pub repeated_push : (nets : Nets) (bits found low after : List Bit) (k : ℕ) → low ≡ bits → after ≡ low ++ found → number (values nets found) ≡ repeated k (length bits) (number (values nets bits)) → number (values nets after) ≡ repeated (suc k) (length bits) (number (values nets bits))
repeated_push nets bits found low after k is_low is same =
    ap (λ (l : List Bit). number (values nets l)) (is ∙ ap (λ (l : List Bit). l ++ found) is_low) ∙ number_append nets bits found ∙ ap (λ (m : ℕ). m * 2 ^ length bits + number (values nets bits)) same

pub length_push : (bits found low after : List Bit) (k : ℕ) → low ≡ bits → after ≡ low ++ found → length found ≡ k * length bits → length after ≡ (k + 1) * length bits
length_push bits found low after k is_low is long = ap length (is ∙ ap (λ (l : List Bit). l ++ found) is_low) ∙ simp length-append (grind (arith, long))

pub below_push : (n : ℕ) (bits found low after : List Bit) → low ≡ bits → after ≡ low ++ found → AllBelow n bits → AllBelow n found → AllBelow n after
below_push n bits found low after is_low is h k = subst (AllBelow n) (sym (is ∙ ap (λ (l : List Bit). l ++ found) is_low)) (below_append n bits found h k)

pub below_filled : (n : ℕ) (bits found : List Bit) (k : ℕ) (signed : Bool) (fill : Bit) → fill ≡ fill_bit bits signed → found ≡ bits ++ replicate k fill → AllBelow n bits → AllBelow n found
below_filled n bits found k signed fill is_fill is h = subst (AllBelow n) (sym is) (below_append n bits (replicate k fill) h (many k (subst (λ (b : Bit). AllBelow n (b ∷ [])) (sym is_fill) (filling signed))))
  where
    filling : (b : Bool) → AllBelow n (fill_bit bits b ∷ [])
    filling true = below_at n bits (length bits - 1) h
    filling false = tt

    many : (j : ℕ) → AllBelow n (fill ∷ []) → AllBelow n (replicate j fill)
    many zero one = tt
    many (suc j) one = below_append n (fill ∷ []) (replicate j fill) one (many j one)
