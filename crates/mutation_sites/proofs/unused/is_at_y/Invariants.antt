use Rattle.mutation_sites.proofs.Common.{◌≡◌, drop, times_at, y_bits}
use Rattle.mutation_sites.proofs.unused.is_at_y.Given as goal

abbrev pub invariant-loop-cell : goal.invariant-loop-cell
invariant-loop-cell l = times_at l.net (y_bits l.cells) ≡ times_at l.net (y_bits (drop l.cell-index l.cells))
