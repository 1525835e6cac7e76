-- Ranges with their bits.
use Rattle.std.specs.Prelude.{◌≡◌, ℤ, pos, negsuc, Ok, Err}
use Rattle.mcy_base.specs.declared.span.Span.{Span}
use Rattle.flat_scopes.specs.declared.range.RangeError.TheVariants.{TooWide, RangeForm}
use Rattle.flat_scopes.specs.declared.range.VectorBits.{VectorBits}
use Rattle.flat_scopes.specs.Ranges.{bits_between}

-- the range from msb to lsb, at any place
abbrev pub HasBits : ℤ → ℤ → VectorBits → Type 0
HasBits msb lsb bits = (at : Span) → bits_between at msb lsb ≡ Ok bits

abbrev pub IsTooWide : ℤ → ℤ → Type 0
IsTooWide msb lsb = (at : Span) → bits_between at msb lsb ≡ Err (TooWide at)

abbrev pub IsRefused : ℤ → ℤ → Type 0
IsRefused msb lsb = (at : Span) → bits_between at msb lsb ≡ Err (RangeForm at)

-- [7:0], [11:4], [127:0] and [2147483647:2147483647]
abbrev pub Accepted : Type 0
Accepted = HasBits (pos 7) (pos 0) (record { width = 8; low = 0 }) × HasBits (pos 11) (pos 4) (record { width = 8; low = 4 }) × HasBits (pos 127) (pos 0) (record { width = 128; low = 0 }) × HasBits (pos 2147483647) (pos 2147483647) (record { width = 1; low = 2147483647 })

-- [128:0], and [127:-1], which begins below 0 besides
abbrev pub Wide : Type 0
Wide = IsTooWide (pos 128) (pos 0) × IsTooWide (pos 127) (negsuc 0)

-- [0:7], [3:-1] and [2147483648:2147483648]
abbrev pub Malformed : Type 0
Malformed = IsRefused (pos 0) (pos 7) × IsRefused (pos 3) (negsuc 0) × IsRefused (pos 2147483648) (pos 2147483648)
