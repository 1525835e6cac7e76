-- The nets' values as a table.
use Rattle.std.specs.Prelude.{◌≤◌, Bool, false, List, length, slice_index_or}
use Rattle.netlist_core.specs.declared.bit.Bit.{Bit}
use Rattle.netlist_core.specs.Runs.{Nets}

-- For proofs alone.

-- the value of each net, and false for a number past the table's end
abbrev pub nets_of : List Bool → Nets
nets_of table = λ n. slice_index_or table n false

-- the bits of a word
abbrev pub IsWide : List Bit → Type 0
IsWide bits = (1 ≤ length bits) × (length bits ≤ 128)

-- ports of a cell: one to three inputs, and Y
abbrev pub HasInputs : List (List Bit) → Type 0
HasInputs ports = (2 ≤ length ports) × (length ports ≤ 4)
