use Rattle.gate_words.proofs.RowLemmas.{RowAhead}
use Rattle.gate_words.proofs.rows.row.Given as goal

abbrev pub invariant-loop-i : goal.invariant-loop-i
invariant-loop-i l = RowAhead l.operation l.fn.gates l.a l.b l.i l.gates l.bits.items
