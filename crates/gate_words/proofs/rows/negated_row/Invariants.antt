use Rattle.gate_words.proofs.Common.{◌≡◌, map, take, negated}
use Rattle.gate_words.proofs.rows.negated_row.Given as goal

abbrev pub invariant-loop-bit : goal.invariant-loop-bit
invariant-loop-bit l = l.found.items ≡ map negated (take l.bit-index l.bits)
