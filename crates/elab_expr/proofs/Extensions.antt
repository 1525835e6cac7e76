-- Bits filled up to a width.
use Rattle.elab_expr.proofs.Common.{◌≡◌, ℕ, zero, suc, ◌+◌, ◌-◌, ◌*◌, ◌≤◌, ◌^◌, Bool, true, false, List, [], ◌∷◌, ◌++◌, length, replicate, nat_le, get_or, refl, sym, ap, ◌∙◌, arith, append_assoc}
use Rattle.elab_expr.proofs.Common.{pow-suc, pow_mono, Bit, Fixed, number, top_bit, Nets, bit_value, values, is_negative, extended, extended_negative, extended_positive, ShapeOfBits, last_bit}
use Rattle.elab_expr.proofs.Common.{fill_bit, length-values}
use Rattle.netlist_core.specs.Numbers.{digit}
use Rattle.elab_expr.proofs.Bits.{number-fits}
use Rattle.elab_expr.proofs.KindLemmas.{top_tells}

pub filled_0 : (nets : Nets) (bits : List Bit) (f : Bit) (k : ℕ) → bit_value nets f ≡ false → number (values nets (bits ++ replicate k f)) ≡ number (values nets bits)
filled_0 nets [] f zero e = refl
filled_0 nets [] f (suc k) e = let more = filled_0 nets [] f k e in let d : digit (bit_value nets f) ≡ 0 = ap digit e in omega (arith, more, d)
filled_0 nets (x ∷ bits) f k e = ap (λ (m : ℕ). digit (bit_value nets x) + 2 * m) (filled_0 nets bits f k e)

ones : (nets : Nets) (f : Bit) (k : ℕ) → bit_value nets f ≡ true → number (values nets (replicate k f)) + 1 ≡ 2 ^ k
ones nets f zero e = refl
ones nets f (suc k) e =
    let more = ones nets f k e in
    let d : digit (bit_value nets f) ≡ 1 = ap digit e in
    let p : 2 ^ suc k ≡ 2 ^ k * 2 = pow-suc 2 k in
    omega (arith, more, d, p)

pub filled_1 : (nets : Nets) (bits : List Bit) (f : Bit) (k : ℕ) → bit_value nets f ≡ true → number (values nets (bits ++ replicate k f)) + 2 ^ length bits ≡ number (values nets bits) + 2 ^ (length bits + k)
filled_1 nets [] f k e = let z : 0 + k ≡ k = omega arith in let o = ones nets f k e in let p : 2 ^ (0 + k) ≡ 2 ^ k = ap (λ (m : ℕ). 2 ^ m) z in omega (arith, o, p)
filled_1 nets (x ∷ bits) f k e =
    let more = filled_1 nets bits f k e in
    let p : 2 ^ suc (length bits) ≡ 2 ^ length bits * 2 = pow-suc 2 (length bits) in
    let j : suc (length bits) + k ≡ suc (length bits + k) = omega arith in
    let q : 2 ^ (suc (length bits) + k) ≡ 2 ^ (length bits + k) * 2 = ap (λ (m : ℕ). 2 ^ m) j ∙ pow-suc 2 (length bits + k) in
    omega (arith, more, p, q)

top_last : (nets : Nets) (bits : List Bit) → 1 ≤ length bits → top_bit (values nets bits) ≡ bit_value nets (last_bit bits)
top_last nets [] some = absurd (omega arith)
top_last nets (x ∷ []) some = refl
top_last nets (x ∷ y ∷ more) some =
    let k : suc (length more) - 1 ≡ length more = omega arith in
    let j : suc (suc (length more)) - 1 ≡ suc (length more) = omega arith in
    let e : top_bit (values nets (y ∷ more)) ≡ bit_value nets (get_or (y ∷ more) (length more) (Fixed false)) = rw k at (top_last nets (y ∷ more) (omega arith)) in
    rw j e

negative_is : (nets : Nets) (bits : List Bit) (b : Bool) → 1 ≤ length bits → bit_value nets (last_bit bits) ≡ b → is_negative (ShapeOfBits bits true) (number (values nets bits)) ≡ b
negative_is nets bits b some e =
    let long : length (values nets bits) ≡ length bits = length-values nets bits in
    let t : top_bit (values nets bits) ≡ nat_le (2 ^ (length (values nets bits) - 1)) (number (values nets bits)) = top_tells (values nets bits) (omega (arith, long)) in
    sym (ap (λ (m : ℕ). nat_le (2 ^ (m - 1)) (number (values nets bits))) long) ∙ sym t ∙ top_last nets bits some ∙ e

signed_extension : (nets : Nets) (bits : List Bit) (w : ℕ) (b : Bool) → 1 ≤ length bits → length bits ≤ w → bit_value nets (last_bit bits) ≡ b → number (values nets (bits ++ replicate (w - length bits) (last_bit bits))) ≡ extended (ShapeOfBits bits true) w (number (values nets bits))
signed_extension nets bits w true some wide e =
    let n = filled_1 nets bits (last_bit bits) (w - length bits) e in
    let fits = number-fits nets bits in
    let whole : length bits + (w - length bits) ≡ w = omega arith in
    let power : 2 ^ (length bits + (w - length bits)) ≡ 2 ^ w = ap (λ (m : ℕ). 2 ^ m) whole in
    let le : 2 ^ length bits ≤ 2 ^ w = pow_mono {i = length bits} {j = w} wide in
    let value = extended_negative (ShapeOfBits bits true) w (number (values nets bits)) (negative_is nets bits true some e) fits wide in
    omega (arith, n, power, le, value)
signed_extension nets bits w false some wide e =
    filled_0 nets bits (last_bit bits) (w - length bits) e ∙ sym (extended_positive (ShapeOfBits bits true) w (number (values nets bits)) (negative_is nets bits false some e) (number-fits nets bits) wide)

extension : (nets : Nets) (bits : List Bit) (w : ℕ) (signed : Bool) → 1 ≤ length bits → length bits ≤ w → number (values nets (bits ++ replicate (w - length bits) (fill_bit bits signed))) ≡ extended (ShapeOfBits bits signed) w (number (values nets bits))
extension nets bits w true some wide = signed_extension nets bits w (bit_value nets (last_bit bits)) some wide refl
extension nets bits w false some wide = filled_0 nets bits (Fixed false) (w - length bits) refl ∙ sym (extended_positive (ShapeOfBits bits false) w (number (values nets bits)) refl (number-fits nets bits) wide)

-- the same, from what the loop keeps
pub extended_is : (nets : Nets) (bits found : List Bit) (w : ℕ) (signed : Bool) (fill : Bit) → 1 ≤ length bits → length bits ≤ w → fill ≡ fill_bit bits signed → length found ≡ w → found ≡ bits ++ replicate (length found - length bits) fill → number (values nets found) ≡ extended (ShapeOfBits bits signed) w (number (values nets bits))
extended_is nets bits found w signed fill some wide is_fill long is =
    ap (λ (l : List Bit). number (values nets l)) (is ∙ ap (λ (m : ℕ). bits ++ replicate (m - length bits) fill) long ∙ ap (λ (f : Bit). bits ++ replicate (w - length bits) f) is_fill)
    ∙ extension nets bits w signed some wide

-- one place more
pub fill_more : (bits found after : List Bit) (fill : Bit) → length bits ≤ length found → found ≡ bits ++ replicate (length found - length bits) fill → after ≡ found ++ fill ∷ [] → length after ≡ length found + 1 → after ≡ bits ++ replicate (length after - length bits) fill
fill_more bits found after fill wide is more long =
    let n : length after - length bits ≡ suc (length found - length bits) = omega (arith, long) in
    more ∙ ap (λ (l : List Bit). l ++ fill ∷ []) is ∙ append_assoc bits (replicate (length found - length bits) fill) (fill ∷ []) ∙ ap (λ (l : List Bit). bits ++ l) (replicate_push (length found - length bits) fill) ∙ sym (ap (λ (m : ℕ). bits ++ replicate m fill) n)
  where
    replicate_push : (k : ℕ) (b : Bit) → replicate k b ++ b ∷ [] ≡ replicate (suc k) b
    replicate_push zero b = refl
    replicate_push (suc k) b = ap (λ (l : List Bit). b ∷ l) (replicate_push k b)
