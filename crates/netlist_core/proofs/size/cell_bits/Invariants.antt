use Rattle.netlist_core.proofs.Common.{◌≡◌, ◌+◌, ◌≤◌, ◌-◌, ◌^◌, drop, y_bits, all_bits, counted}
use Rattle.netlist_core.proofs.size.cell_bits.Given as goal

abbrev pub invariant-loop-cell : goal.invariant-loop-cell
invariant-loop-cell l = (counted (l.total + all_bits (y_bits (drop l.cell-index l.cells))) ≡ counted (all_bits (y_bits l.cells))) × (l.total ≤ 2 ^ 64 - 1)
