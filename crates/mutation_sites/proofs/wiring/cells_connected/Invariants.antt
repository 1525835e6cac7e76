use Rattle.mutation_sites.proofs.Common.{◌≡◌, ◌++◌, drop, cells_connected}
use Rattle.mutation_sites.proofs.wiring.cells_connected.Given as goal

abbrev pub invariant-loop-number : goal.invariant-loop-number
invariant-loop-number l = l.items.items ++ cells_connected l.wiring.readers l.wiring.new l.number (drop l.number l.cell-items) ≡ cells_connected l.wiring.readers l.wiring.new 0 l.netlist.raw.cells
