use Rattle.gate_words.proofs.Adders.{CarryAhead}
use Rattle.gate_words.proofs.sums.carry_out.Given as goal

abbrev pub invariant-loop-i : goal.invariant-loop-i
invariant-loop-i l = CarryAhead l.fn.gates l.a l.b l.fn.carry l.i l.gates l.carry
