-- Bits without cells, as the loops lay them.
use Rattle.elab_expr.proofs.Common.{◌≡◌, ℕ, suc, ◌+◌, ◌-◌, ◌/◌, ◌%◌, ◌<◌, ◌≤◌, ◌^◌, ℤ, pos, negsuc, ◌-ℤ◌, ◌+ℤ◌, min, Bool, true, false, nat_eq, nat_le, replicate, List, [], ◌∷◌, ◌++◌, length, refl}
use Rattle.elab_expr.proofs.Common.{sym, ap, ◌∙◌, arith, append_assoc, append-nil, nat_tests, Bit, Fixed, Bound, bound_integer, fill_bit, bit_or_0, number_bits, widened, bit_of, bits_from, times}
use Rattle.elab_expr.proofs.Selects.{past_end, up_at}

-- one bit of a number more
pub number_more : (bits after : List Bit) (k r w v : ℕ) → after ≡ bits ++ Fixed (nat_eq (r % 2) 1) ∷ [] → k < w → bits ++ number_bits (w - k) r ≡ number_bits w v → after ++ number_bits (w - (k + 1)) (r / 2) ≡ number_bits w v
number_more bits after k r w v is more same =
    let split : w - k ≡ suc (w - (k + 1)) = omega arith in
    ap (λ (l : List Bit). l ++ number_bits (w - (k + 1)) (r / 2)) is
    ∙ append_assoc bits (Fixed (nat_eq (r % 2) 1) ∷ []) (number_bits (w - (k + 1)) (r / 2))
    ∙ sym (ap (λ (n : ℕ). bits ++ number_bits n r) split) ∙ same

pub number_done : (bits : List Bit) (k r w v : ℕ) → w ≤ k → bits ++ number_bits (w - k) r ≡ number_bits w v → bits ≡ number_bits w v
number_done bits k r w v none same =
    let z : w - k ≡ 0 = omega arith in
    sym (append-nil bits) ∙ sym (ap (λ (n : ℕ). bits ++ number_bits n r) z) ∙ same

pub widened_is : (bits found : List Bit) (w : ℕ) (signed : Bool) (fill : Bit) → fill ≡ fill_bit bits signed → length found ≡ w → found ≡ bits ++ replicate (length found - length bits) fill → found ≡ widened bits signed w
widened_is bits found w signed fill is_fill long is = is ∙ ap (λ (m : ℕ). bits ++ replicate (m - length bits) fill) long ∙ ap (λ (f : Bit). bits ++ replicate (w - length bits) f) is_fill

-- the bit at a place
pub there : (bits : List Bit) (z : ℤ) (j : ℕ) (b : Bit) → z ≡ pos j → b ≡ bit_or_0 bits j → b ≡ bit_of bits z
there bits z j b e is = is ∙ sym (ap (bit_of bits) e)

pub nowhere : (bits : List Bit) (z : ℤ) (j : ℕ) (b : Bit) → z ≡ negsuc j → b ≡ Fixed false → b ≡ bit_of bits z
nowhere bits z j b e is = is ∙ sym (ap (bit_of bits) e)

-- a place that is counted up to the type's end
pub there_or_past : (bits : List Bit) (p : Bound) (low k at : ℕ) (b : Bit) → p.is_negative ≡ false → low < 2 ^ 32 → length bits ≤ 128 → at ≡ min (p.magnitude + k) (2 ^ 128 - 1) → low ≤ at → b ≡ bit_or_0 bits (at - low) → b ≡ bit_of bits (bound_integer p -ℤ pos low +ℤ pos k)
there_or_past bits p low k at b e small short is_at above is = go (nat_le (p.magnitude + k) (2 ^ 128 - 1)) refl
  where
    go : (fits : Bool) → nat_le (p.magnitude + k) (2 ^ 128 - 1) ≡ fits → b ≡ bit_of bits (bound_integer p -ℤ pos low +ℤ pos k)
    go true f =
        let same : at ≡ p.magnitude + k = (let le : p.magnitude + k ≤ 2 ^ 128 - 1 = grind (arith, nat_tests) in omega (arith, le, is_at)) in
        there bits _ (p.magnitude + k - low) b (up_at p low k e (omega (arith, same))) (is ∙ ap (λ (m : ℕ). bit_or_0 bits (m - low)) same)
    go false f =
        let large : 2 ^ 128 - 1 < p.magnitude + k = grind (arith, nat_tests) in
        there bits _ (p.magnitude + k - low) b (up_at p low k e (omega (arith, large))) (is ∙ past_end bits (at - low) (omega (arith, large, is_at)) ∙ sym (past_end bits (p.magnitude + k - low) (omega (arith, large))))

-- one bit more
pub from_more : (bits found after : List Bit) (z : ℤ) (k : ℕ) (b : Bit) → after ≡ found ++ b ∷ [] → found ≡ bits_from bits z k → b ≡ bit_of bits (z +ℤ pos k) → after ≡ bits_from bits z (suc k)
from_more bits found after z k b is same here = is ∙ ap (λ (l : List Bit). l ++ b ∷ []) same ∙ ap (λ (x : Bit). bits_from bits z k ++ x ∷ []) here

pub times_more : (bits found low after : List Bit) (k : ℕ) → low ≡ bits → after ≡ low ++ found → found ≡ times k bits → after ≡ times (suc k) bits
times_more bits found low after k is_low is same = is ∙ ap (λ (l : List Bit). l ++ found) is_low ∙ ap (λ (l : List Bit). bits ++ l) same
