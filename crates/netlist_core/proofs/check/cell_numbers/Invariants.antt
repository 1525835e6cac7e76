use Rattle.netlist_core.proofs.Common.{◌≡◌, ◌++◌, drop}
use Rattle.netlist_core.proofs.check.cell_numbers.Given as goal

abbrev pub invariant-loop-c : goal.invariant-loop-c
invariant-loop-c l = l.numbers.items ++ drop l.c-index l.cells ≡ l.cells
