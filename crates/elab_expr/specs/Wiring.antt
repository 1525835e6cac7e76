-- Bits as a number of their width.
use Rattle.std.specs.Prelude.{ℕ, ◌+◌, ◌-◌, ◌*◌, ◌/◌, ◌%◌, ◌^◌, ℤ, pos, negsuc, Bool, false, List, length, slice_index_or, if◌then◌else◌}
use Rattle.netlist_core.specs.declared.bit.Bit.{Bit}
use Rattle.netlist_core.specs.declared.bit.Bit.TheVariants.{Fixed}
use Rattle.vlog_meaning.specs.declared.shapes.Shape.{Shape}

-- the width of bits, with a sign
abbrev pub ShapeOfBits : List Bit → Bool → Shape
ShapeOfBits bits is_signed = record { width = length bits; is_signed = is_signed }

-- the highest bit, and what fills the places above it
abbrev pub last_bit : List Bit → Bit
last_bit bits = slice_index_or bits (length bits - 1) (Fixed false)

abbrev pub fill_bit : List Bit → Bool → Bit
fill_bit bits is_signed = if is_signed then last_bit bits else Fixed false

-- the bit at a place, and 0 past the end
abbrev pub bit_or_0 : List Bit → ℕ → Bit
bit_or_0 bits place = slice_index_or bits place (Fixed false)

-- For proofs alone.

-- digit k of the bits of a number from a place on
abbrev pub window_digit : ℤ → ℕ → ℕ → ℕ
window_digit (pos at) k v = v / 2 ^ at / 2 ^ k % 2
window_digit (negsuc n) k v = v * 2 ^ (n + 1) / 2 ^ k % 2
