use Rattle.netlist_core.proofs.Common.{◌↔◌, drop, y_bits, AllPortsNets}
use Rattle.netlist_core.proofs.formed.are_computed.Given as goal

abbrev pub invariant-loop-cell : goal.invariant-loop-cell
invariant-loop-cell l = AllPortsNets (y_bits (drop l.cell-index l.cells)) ↔ AllPortsNets (y_bits l.cells)
