use Rattle.netlist_gates.proofs.Common.{◌≡◌, ◌++◌, take, lits_of, bits_lits}
use Rattle.netlist_gates.proofs.lits.add_row.Given as goal

abbrev pub invariant-loop-bit : goal.invariant-loop-bit
invariant-loop-bit l = l.row.items ≡ l.initial.row.items ++ bits_lits (lits_of l.table) (take l.bit-index l.bits)
