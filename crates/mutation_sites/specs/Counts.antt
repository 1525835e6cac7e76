-- How many sites there are: as many at each bit as the port has modes.
use Rattle.std.specs.Prelude.{ℕ, ◌+◌, ◌*◌, List, [], ◌∷◌, length}
use Rattle.netlist_core.specs.declared.bit.Bit.{Bit}
use Rattle.netlist_core.specs.declared.cell.Cell.{Cell}
use Rattle.netlist_core.specs.declared.port.Register.{Register}
use Rattle.mutation_sites.specs.declared.mode.ModeSet.{ModeSet}
use Rattle.mutation_sites.specs.Modes.{modes_of, set_at}

-- For proofs alone.

abbrev pub port_count : ModeSet → List Bit → ℕ
port_count set bits = length bits * length (modes_of (set_at set (length bits)))

abbrev pub ports_count : ModeSet → List (List Bit) → ℕ
ports_count set [] = 0
ports_count set (bits ∷ more) = port_count set bits + ports_count set more

abbrev pub cells_count : ModeSet → List Cell → ℕ
cells_count set [] = 0
cells_count set (cell ∷ more) = ports_count set cell.ports + cells_count set more

abbrev pub registers_count : ModeSet → List Register → ℕ
registers_count set [] = 0
registers_count set (r ∷ more) = port_count set r.d + port_count set r.q + registers_count set more
