use Rattle.mutation_sites.proofs.Common.{◌≡◌, ◌+◌, drop, cells_count}
use Rattle.mutation_sites.proofs.count.cells_count.Given as goal

abbrev pub invariant-loop-cell : goal.invariant-loop-cell
invariant-loop-cell l = l.count + cells_count l.modes (drop l.cell-index l.cells) ≡ cells_count l.modes l.cells
