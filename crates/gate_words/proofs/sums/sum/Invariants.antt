use Rattle.gate_words.proofs.Adders.{SumAhead}
use Rattle.gate_words.proofs.sums.sum.Given as goal

abbrev pub invariant-loop-i : goal.invariant-loop-i
invariant-loop-i l = SumAhead l.fn.gates l.a l.b l.fn.carry l.i l.gates l.bits.items l.carry
