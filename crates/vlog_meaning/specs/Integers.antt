-- Numbers of a width, and the integers that they stand for, in two's complement.
use Rattle.std.specs.Prelude.{ℕ, zero, suc, ◌+◌, ◌-◌, ◌*◌, ◌/◌, ◌%◌, ◌^◌, ℤ, pos, negsuc, ◌-ℤ◌, neg_ℤ, Bool, ◌&&◌, nat_le, if◌then◌else◌}
use Rattle.vlog_meaning.specs.declared.bound.Bound.{Bound}
use Rattle.vlog_meaning.specs.declared.shapes.Shape.{Shape}

-- a signed number whose highest bit is 1 is negative
abbrev pub is_negative : Shape → ℕ → Bool
is_negative s v = s.is_signed && nat_le (2 ^ (s.width - 1)) v

-- the integer that a number of this width and sign stands for
abbrev pub integer : Shape → ℕ → ℤ
integer s v = if is_negative s v then pos v -ℤ pos (2 ^ s.width) else pos v

-- the low bits of an integer: the number of w bits that is equal to it modulo 2 ^ w
abbrev pub low_bits : ℕ → ℤ → ℕ
low_bits w (pos n) = n % 2 ^ w
low_bits w (negsuc n) = 2 ^ w - 1 - n % 2 ^ w

-- A number at another width (5.5.4): it is extended with its sign where it is signed.
abbrev pub extended : Shape → ℕ → ℕ → ℕ
extended s w v = low_bits w (integer s v)

-- an integer divided by 2 ^ k, rounded down
abbrev pub halved : ℤ → ℕ → ℤ
halved (pos n) k = pos (n / 2 ^ k)
halved (negsuc n) k = negsuc (n / 2 ^ k)

-- an integer as a count: 0 where it is negative
abbrev pub natural : ℤ → ℕ
natural (pos n) = n
natural (negsuc n) = 0

-- the bits of a number from this place on, as many as the width; a place outside the number has the bit 0
abbrev pub window : ℤ → ℕ → ℕ → ℕ
window (pos at) w v = v / 2 ^ at % 2 ^ w
window (negsuc n) w v = v * 2 ^ (n + 1) % 2 ^ w

-- the number of 1 bits among the lowest w, modulo 2
abbrev pub parity : ℕ → ℕ → ℕ
parity zero v = 0
parity (suc w) v = (v % 2 + parity w (v / 2)) % 2

-- the number of times that 2 is multiplied to reach n (17.11.1 of 1364-2005: the ceiling of the logarithm)
abbrev pub clog2_from : ℕ → ℕ → ℕ → ℕ
clog2_from zero k n = k
clog2_from (suc fuel) k n = if nat_le n (2 ^ k) then k else clog2_from fuel (k + 1) n

unfoldable pub clog2 : ℕ → ℕ
clog2 n = clog2_from 128 0 n

-- a bound: an integer by its sign and its size
abbrev pub bound_integer : Bound → ℤ
bound_integer b = if b.is_negative then neg_ℤ (pos b.magnitude) else pos b.magnitude
