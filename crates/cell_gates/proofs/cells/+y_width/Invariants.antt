use Rattle.cell_gates.proofs.Common.{length}
use Rattle.cell_gates.proofs.cells.+y_width.Given as goal

abbrev pub decreases-y_width : goal.decreases-y_width
decreases-y_width l = length l.ports.now
