-- Negative numbers.
use Rattle.vlog_meaning.proofs.Common.{◌≡◌, ℕ, ◌+◌, ◌-◌, ◌/◌, ◌%◌, ◌<◌, ◌≤◌, ◌^◌, true, false, pos, negsuc, ◌-ℤ◌, refl, arith, mod-eq_of_lt, div-le_self, Shape, is_negative, integer, low_bits}
use Rattle.vlog_meaning.proofs.Common.{extended, halved}
use Rattle.std.proofs.lemmas.Int.{ints}
use Rattle.vlog_meaning.proofs.Powers.{power_le}

pub difference_negative : (v m : ℕ) → v < m → pos v -ℤ pos m ≡ negsuc (m - 1 - v)
difference_negative v m h = omega (arith, ints)

pub integer_negative : (s : Shape) (v : ℕ) → is_negative s v ≡ true → v < 2 ^ s.width → integer s v ≡ negsuc (2 ^ s.width - 1 - v)
integer_negative s v n h = rw n (difference_negative v (2 ^ s.width) h)

pub integer_positive : (s : Shape) (v : ℕ) → is_negative s v ≡ false → integer s v ≡ pos v
integer_positive s v n = rw n refl

pub extended_negative : (s : Shape) (w v : ℕ) → is_negative s v ≡ true → v < 2 ^ s.width → s.width ≤ w → extended s w v ≡ v + (2 ^ w - 2 ^ s.width)
extended_negative s w v n h wide =
    let le : 2 ^ s.width ≤ 2 ^ w = power_le s.width w wide in
    let small : (2 ^ s.width - 1 - v) % 2 ^ w ≡ 2 ^ s.width - 1 - v = mod-eq_of_lt (omega arith) in
    rw (integer_negative s v n h) (rw small (omega arith))

pub extended_positive : (s : Shape) (w v : ℕ) → is_negative s v ≡ false → v < 2 ^ s.width → s.width ≤ w → extended s w v ≡ v
extended_positive s w v n h wide =
    let le : 2 ^ s.width ≤ 2 ^ w = power_le s.width w wide in
    rw (integer_positive s v n) (mod-eq_of_lt (omega arith))

pub halved_negative : (s : Shape) (v p : ℕ) → is_negative s v ≡ true → v < 2 ^ s.width → low_bits s.width (halved (integer s v) p) ≡ 2 ^ s.width - 1 - (2 ^ s.width - 1 - v) / 2 ^ p
halved_negative s v p n h =
    let less : (2 ^ s.width - 1 - v) / 2 ^ p ≤ 2 ^ s.width - 1 - v = div-le_self (2 ^ s.width - 1 - v) (2 ^ p) in
    let small : (2 ^ s.width - 1 - v) / 2 ^ p % 2 ^ s.width ≡ (2 ^ s.width - 1 - v) / 2 ^ p = mod-eq_of_lt (omega arith) in
    rw (integer_negative s v n h) (rw small refl)

pub halved_positive : (s : Shape) (v p : ℕ) → is_negative s v ≡ false → v < 2 ^ s.width → low_bits s.width (halved (integer s v) p) ≡ v / 2 ^ p
halved_positive s v p n h =
    let less : v / 2 ^ p ≤ v = div-le_self v (2 ^ p) in
    rw (integer_positive s v n) (mod-eq_of_lt (omega arith))
