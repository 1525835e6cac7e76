-- Declared types have from 1 to 128 bits.
use Rattle.flat_laws.proofs.Common.{◌≡◌, ◌+◌, ◌-◌, ◌≤◌, Bool, true, false, ℤ, pos, negsuc, ◌-ℤ◌, Option, None, Some, Ok, Err, refl, arith, int_lt, ◌||◌, ◌^◌, if◌then◌else◌, DataType, Wire, Reg}
use Rattle.flat_laws.proofs.Common.{Integer, Fault, least, Names, sense, constant_faults, constant_integer, VectorBits, bits_or_one, one_bit, type_of, bits_between, bits_of_bounds, bits_of_range}
use Rattle.std.proofs.lemmas.Bool.Decides.{nat_tests}
use Rattle.mcy_base.specs.declared.span.Span.{Span}
use Rattle.vlog_syntax.specs.declared.item.Range.{Range}
use Rattle.vlog_meaning.specs.Integers.{natural}
use Rattle.flat_scopes.specs.declared.range.RangeError.TheVariants.{TooWide, RangeForm}

abbrev pub IsWithin : VectorBits → Type 0
IsWithin bits = (1 ≤ bits.width) × (bits.width ≤ 128)

one_within : IsWithin one_bit
one_within = (omega arith, omega arith)

natural_small : (z : ℤ) → int_lt (pos 127) z ≡ false → natural z ≤ 127
natural_small (pos n) e = grind (arith, nat_tests)
natural_small (negsuc n) e = omega arith

between_within : (at : Span) (msb lsb : ℤ) → IsWithin (bits_or_one (bits_between at msb lsb))
between_within at msb lsb = go (int_lt (pos 127) (msb -ℤ lsb)) (int_lt msb lsb || int_lt lsb (pos 0) || int_lt (pos (2 ^ 31 - 1)) lsb) refl where
  go : (wide bad : Bool) → int_lt (pos 127) (msb -ℤ lsb) ≡ wide → IsWithin (bits_or_one (if wide then Err (TooWide at) else if bad then Err (RangeForm at) else Ok (record { width = natural (msb -ℤ lsb) + 1; low = natural lsb })))
  go true bad e = one_within
  go false true e = one_within
  go false false e = let small = natural_small (msb -ℤ lsb) e in (omega arith, omega (arith, small))

bounds_within : (at : Span) (f g : Option Fault) (msb lsb : ℤ) → IsWithin (bits_or_one (bits_of_bounds at f g msb lsb))
bounds_within at (Some x) g msb lsb = one_within
bounds_within at None (Some x) msb lsb = one_within
bounds_within at None None msb lsb = between_within at msb lsb

range_within : (names : Names) (range : Option Range) → IsWithin (bits_or_one (bits_of_range names range))
range_within names None = one_within
range_within names (Some r) = bounds_within r.span (least (constant_faults (sense names r.msb))) (least (constant_faults (sense names r.lsb))) (constant_integer (sense names r.msb)) (constant_integer (sense names r.lsb))

pub type_within : (names : Names) (x : DataType) → IsWithin (type_of names x).bits
type_within names (Wire v) = range_within names v.range
type_within names (Reg v) = range_within names v.range
type_within names Integer = (omega arith, omega arith)
