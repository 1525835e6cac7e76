-- Parts of left sides whose bits can be found.
use Rattle.std.specs.Prelude.{◌≤◌, List, [], ◌∷◌}
use Rattle.vlog_meaning.specs.Integers.{natural}
use Rattle.vlog_meaning.specs.Operators.{IsSized}
use Rattle.vlog_meaning.specs.Scopes.{Names, decl_shape}
use Rattle.vlog_meaning.specs.Senses.{Bits, no_bits, either, sense, constant_integer, part_width, IsWhole}
use Rattle.vlog_effects.specs.Latches.{index_reads}
use Rattle.vlog_effects.specs.LeftSides.{Select, Whole, Bit, Range, Indexed, Part}

-- its expressions have shapes, and it has at most 128 bits
abbrev pub IsFitSelect : Names → Select → Type 0
IsFitSelect names Whole = Unit {0}
IsFitSelect names (Bit at i) = IsWhole names i
IsFitSelect names (Range at msb lsb) = IsWhole names msb × IsWhole names lsb × (part_width (constant_integer (sense names msb)) (constant_integer (sense names lsb)) ≤ 128)
IsFitSelect names (Indexed at base count) = IsWhole names base × IsWhole names count × (natural (constant_integer (sense names count)) ≤ 128)

-- each part is one of a name of 1 to 128 bits
abbrev pub AreFit : Names → List Part → Type 0
AreFit names [] = Unit {0}
AreFit names (p ∷ ps) = (IsSized (decl_shape (names p.name.name)) × IsFitSelect names p.select) × AreFit names ps

-- the bits that the indices of parts read
abbrev pub indices_read : Names → List Part → Bits
indices_read names [] = no_bits
indices_read names (p ∷ ps) = either (index_reads names p.select) (indices_read names ps)
