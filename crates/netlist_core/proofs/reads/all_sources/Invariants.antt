use Rattle.netlist_core.proofs.Common.{◌≡◌, ◌++◌, map, drop, driver_at, all_sources}
use Rattle.netlist_core.proofs.reads.all_sources.Given as goal

abbrev pub invariant-loop-cell : goal.invariant-loop-cell
invariant-loop-cell l = map (λ w. w.items) l.lists.items ++ all_sources (driver_at l.table) (drop l.cell-index l.cells) ≡ all_sources (driver_at l.table) l.cells
