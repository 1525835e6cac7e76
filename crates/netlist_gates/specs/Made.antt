-- The gates of a netlist, and the literals of its nets.
--
-- Free bits are the inputs in order and then the registers, bit 0 first, from variable 1 on. The gates are those of the cells, in the
-- order of the netlist.
use Rattle.std.specs.Prelude.{ℕ, ◌+◌, List, [], ◌∷◌, length, slice_get, Option, Some, None}
use Rattle.netlist_core.specs.declared.cell.Cell.{Cell}
use Rattle.netlist_core.specs.declared.raw.RawNetlist.{RawNetlist}
use Rattle.netlist_core.specs.Runs.{bits_at, q_bits, input_ports, output_port}
use Rattle.netlist_core.specs.Shapes.{widths}
use Rattle.netlist_core.specs.Checked.{all_bits, Plan}
use Rattle.gate_list.specs.Gates.{Gates}
use Rattle.cell_gates.specs.CellRows.{cell_row}
use Rattle.cell_gates.specs.Weights.{weight}
use Rattle.netlist_gates.specs.NetLits.{Lits, no_lits, ports_lits, laid_lits, laid_free}

-- the gates, and the nets' literals over them
pub record MadeNets : Type 0 where
  pub gates : Gates
  pub lits : Lits

-- the variables at which inputs and registers begin
abbrev pub first_input : ℕ
first_input = 1

abbrev pub first_register : RawNetlist → ℕ
first_register netlist = first_input + all_bits (bits_at netlist.inputs)

-- inputs and registers are free bits, and nothing is made
abbrev pub free_lits : RawNetlist → Lits
free_lits netlist = laid_free (laid_free no_lits first_input (bits_at netlist.inputs)) (first_register netlist) (q_bits netlist.registers)

-- a cell's gates, from the literals at its input ports, and the nets of its Y
abbrev pub with_cell : Option Cell → MadeNets → MadeNets
with_cell None made = made
with_cell (Some cell) made =
    let row = cell_row cell.kind cell.is_signed (length (output_port cell.ports)) made.gates (ports_lits made.lits (input_ports cell.ports)) in
    record { gates = row.gates; lits = laid_lits made.lits (output_port cell.ports) row.bits }

-- those of cells by number
abbrev pub with_cells : List Cell → List ℕ → MadeNets → MadeNets
with_cells cells [] made = made
with_cells cells (c ∷ more) made = with_cells cells more (with_cell (slice_get cells c) made)

-- a netlist's, after gates that there are
abbrev pub netlist_made : Gates → Plan → MadeNets
netlist_made gates plan = with_cells plan.raw.cells plan.order (record { gates = gates; lits = free_lits plan.raw })

-- the most gates that a cell adds, and that cells by number do
abbrev pub cell_weight : Option Cell → ℕ
cell_weight None = 0
cell_weight (Some cell) = weight cell.kind (widths cell.ports)

abbrev pub weight_of : List Cell → List ℕ → ℕ
weight_of cells [] = 0
weight_of cells (c ∷ more) = cell_weight (slice_get cells c) + weight_of cells more
