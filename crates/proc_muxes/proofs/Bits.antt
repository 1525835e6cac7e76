-- Bits, their numbers, and writes of bits.
use Rattle.proc_muxes.proofs.Common.{◌≡◌, ℕ, zero, suc, ◌+◌, ◌*◌, ◌/◌, ◌%◌, Bool, true, false, List, [], ◌∷◌, take, drop, length, Option, Some, None, set, refl, sym, ◌∙◌, ap, arith, ◌==◌, map-set}
use Rattle.proc_muxes.proofs.Common.{length-map, length-set, eq-eqb, Bit, Fixed, Net, digit, number, Nets, bit_value, values, bits_of, value_of, written, AllBelow}

-- both count a list of bits alike
pub number-same : (bs : List Bool) → value_of bs ≡ number bs
number-same [] = refl
number-same (true ∷ more) = ap (λ (n : ℕ). 1 + 2 * n) (number-same more)
number-same (false ∷ more) = let e = number-same more in omega (arith, e)

low-bit : (b : Bool) (n : ℕ) → ((digit b + 2 * n) % 2 == 1) ≡ b
low-bit true n = eq-eqb ((1 + 2 * n) % 2) 1 (omega arith)
low-bit false n = let e : (0 + 2 * n) % 2 ≡ 0 = omega arith in rw e refl

high-bits : (b : Bool) (n : ℕ) → (digit b + 2 * n) / 2 ≡ n
high-bits true n = omega arith
high-bits false n = omega arith

-- a list of bits is that of its number
pub bits_of-number : (bs : List Bool) → bits_of (length bs) (number bs) ≡ bs
bits_of-number [] = refl
bits_of-number (b ∷ more) = rw (low-bit b (number more), high-bits b (number more)) (ap (λ (t : List Bool). b ∷ t) (bits_of-number more))

pub values-are : (nets : Nets) (bits : List Bit) (w v : ℕ) → length bits ≡ w → number (values nets bits) ≡ v → values nets bits ≡ bits_of w v
values-are nets bits w v long e =
    let whole : bits_of (length (values nets bits)) (number (values nets bits)) ≡ values nets bits = bits_of-number (values nets bits) in
    let wide : length (values nets bits) ≡ w = length-map bits (bit_value nets) ∙ long in
    sym (rw (wide, e) at whole)

-- the lowest bits are those of a lesser width
pub take-bits_of : (w more v : ℕ) → take w (bits_of (w + more) v) ≡ bits_of w v
take-bits_of zero more v = refl
take-bits_of (suc w) more v = let e : suc w + more ≡ suc (w + more) = omega arith in rw e (ap (λ (t : List Bool). (v % 2 == 1) ∷ t) (take-bits_of w more (v / 2)))

-- values of written bits are written values
pub values-written : (nets : Nets) (old : List Bit) (ps : List (Option ℕ)) (bits : List Bit) → values nets (written old ps bits) ≡ written (values nets old) ps (values nets bits)
values-written nets old [] bits = refl
values-written nets old (p ∷ ps) [] = refl
values-written nets old (None ∷ ps) (b ∷ bits) = values-written nets old ps bits
values-written nets old (Some i ∷ ps) (b ∷ bits) =
    values-written nets (set old i b) ps bits ∙ ap (λ (t : List Bool). written t ps (values nets bits)) (map-set (bit_value nets) old i b)

pub length-written : {A : Type 0} (old : List A) (ps : List (Option ℕ)) (vs : List A) → length (written old ps vs) ≡ length old
length-written old [] vs = refl
length-written old (p ∷ ps) [] = refl
length-written old (None ∷ ps) (v ∷ vs) = length-written old ps vs
length-written old (Some i ∷ ps) (v ∷ vs) = length-written (set old i v) ps vs ∙ length-set old i v

-- Bits that stand below a number.

below-cons : (n : ℕ) (b : Bit) (bits : List Bit) → AllBelow n (b ∷ []) → AllBelow n bits → AllBelow n (b ∷ bits)
below-cons n (Fixed v) bits h k = k
below-cons n (Net m) bits h k = (h.0, k)

below-first : (n : ℕ) (b : Bit) (bits : List Bit) → AllBelow n (b ∷ bits) → AllBelow n (b ∷ [])
below-first n (Fixed v) bits h = tt
below-first n (Net m) bits h = (h.0, tt)

below-rest : (n : ℕ) (b : Bit) (bits : List Bit) → AllBelow n (b ∷ bits) → AllBelow n bits
below-rest n (Fixed v) bits h = h
below-rest n (Net m) bits h = h.1

below-set : (n : ℕ) (bits : List Bit) (i : ℕ) (b : Bit) → AllBelow n bits → AllBelow n (b ∷ []) → AllBelow n (set bits i b)
below-set n [] i b h k = tt
below-set n (x ∷ bits) zero b h k = below-cons n b bits k (below-rest n x bits h)
below-set n (x ∷ bits) (suc i) b h k = below-cons n x (set bits i b) (below-first n x bits h) (below-set n bits i b (below-rest n x bits h) k)

pub below-written : (n : ℕ) (old : List Bit) (ps : List (Option ℕ)) (bits : List Bit) → AllBelow n old → AllBelow n bits → AllBelow n (written old ps bits)
below-written n old [] bits h k = h
below-written n old (p ∷ ps) [] h k = h
below-written n old (None ∷ ps) (b ∷ bits) h k = below-written n old ps bits h (below-rest n b bits k)
below-written n old (Some i ∷ ps) (b ∷ bits) h k = below-written n (set old i b) ps bits (below-set n old i b h (below-first n b bits k)) (below-rest n b bits k)

pub below-take : (n k : ℕ) (bits : List Bit) → AllBelow n bits → AllBelow n (take k bits)
below-take n zero bits h = tt
below-take n (suc k) [] h = tt
below-take n (suc k) (b ∷ bits) h = below-cons n b (take k bits) (below-first n b bits h) (below-take n k bits (below-rest n b bits h))

pub below-drop : (n k : ℕ) (bits : List Bit) → AllBelow n bits → AllBelow n (drop k bits)
below-drop n zero bits h = h
below-drop n (suc k) [] h = tt
below-drop n (suc k) (b ∷ bits) h = below-drop n k bits (below-rest n b bits h)
