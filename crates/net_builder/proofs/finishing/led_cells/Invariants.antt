use Rattle.net_builder.proofs.Common.{◌≡◌, map, take, led_cell, known_of, end_in}
use Rattle.net_builder.proofs.finishing.led_cells.Given as goal

abbrev pub invariant-loop-cell : goal.invariant-loop-cell
invariant-loop-cell l = l.found.items ≡ map (led_cell (end_in (known_of l.trace))) (take l.cell-index l.cells)
