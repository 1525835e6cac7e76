use Rattle.netlist_core.proofs.Common.{◌↔◌, drop, AllCellsWide}
use Rattle.netlist_core.proofs.formed.all_have_wide_ports.Given as goal

abbrev pub invariant-loop-cell : goal.invariant-loop-cell
invariant-loop-cell l = AllCellsWide (drop l.cell-index l.cells) ↔ AllCellsWide l.cells
