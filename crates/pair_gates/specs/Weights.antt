-- How many gates a design counts under its limit: 1, and the sum of the weights of its cells. That is at least as many as are made
-- of it, since folding and sharing only take gates away.
use Rattle.std.specs.Prelude.{ℕ, ◌+◌, List, [], ◌∷◌}
use Rattle.netlist_core.specs.declared.cell.Cell.{Cell}
use Rattle.netlist_core.specs.declared.raw.RawNetlist.{RawNetlist}
use Rattle.netlist_core.specs.Shapes.{widths}
use Rattle.cell_gates.specs.Weights.{weight}

abbrev pub cells_weight : List Cell → ℕ
cells_weight [] = 0
cells_weight (cell ∷ more) = weight cell.kind (widths cell.ports) + cells_weight more

abbrev pub design_gates : RawNetlist → ℕ
design_gates netlist = 1 + cells_weight netlist.cells

abbrev pub max_design_gates : ℕ
max_design_gates = 100000
