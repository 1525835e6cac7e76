-- What the row at Y is worth.
use Rattle.std.specs.Prelude.{◌≡◌, ℕ, Bool, List, map}
use Rattle.clause_store.specs.Clauses.{Values}
use Rattle.netlist_core.specs.declared.cell.CellKind.{CellKind}
use Rattle.netlist_core.specs.Numbers.{number}
use Rattle.netlist_core.specs.Cells.{cell_value}
use Rattle.gate_list.specs.declared.literal.GateLit.{GateLit}
use Rattle.gate_words.specs.Bits.{lit_values}

-- the bits have the value of a cell of this kind, of w bits, whose inputs have these rows
abbrev pub CellIs : CellKind → Bool → ℕ → List (List GateLit) → Values → List Bool → Type 0
CellIs kind signed w inputs values found = number found ≡ cell_value kind signed w (map (lit_values values) inputs)
