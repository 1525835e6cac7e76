use Rattle.pair_gates.proofs.Common.{◌≡◌, ◌+◌, ◌≤◌, ◌-◌, ◌^◌, drop, AllCellsWide, cells_weight}
use Rattle.netlist_core.specs.Sizes.{counted}
use Rattle.pair_gates.proofs.weights.cells_weight.Given as goal

abbrev pub invariant-loop-cell : goal.invariant-loop-cell
invariant-loop-cell l = (counted (l.total + cells_weight (drop l.cell-index l.cells)) ≡ counted (cells_weight l.cells)) × (l.total ≤ 2 ^ 64 - 1) × AllCellsWide (drop l.cell-index l.cells)
