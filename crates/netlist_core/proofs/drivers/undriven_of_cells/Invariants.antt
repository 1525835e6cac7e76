use Rattle.netlist_core.proofs.Common.{◌≡◌, drop, driver_at, undriven_cells}
use Rattle.netlist_core.proofs.drivers.undriven_of_cells.Given as goal

abbrev pub invariant-loop-cell : goal.invariant-loop-cell
invariant-loop-cell l = undriven_cells (driver_at l.table) (drop l.cell-index l.cells) l.found ≡ undriven_cells (driver_at l.table) l.cells l.initial.found
