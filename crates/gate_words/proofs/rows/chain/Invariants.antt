use Rattle.gate_words.proofs.RowLemmas.{ChainAhead}
use Rattle.gate_words.proofs.rows.chain.Given as goal

abbrev pub invariant-loop-bit : goal.invariant-loop-bit
invariant-loop-bit l = ChainAhead l.operation l.fn.gates l.fn.start l.bits l.bit-index l.gates l.lit
