use Rattle.mutation_sites.proofs.Common.{◌≡◌, ◌++◌, drop, cells_sites}
use Rattle.mutation_sites.proofs.site_list.add_cells.Given as goal

abbrev pub invariant-loop-number : goal.invariant-loop-number
invariant-loop-number l = l.list.items ++ cells_sites l.modes l.number (drop l.number l.cell-items) ≡ l.fn.list.items ++ cells_sites l.modes 0 l.netlist.raw.cells
