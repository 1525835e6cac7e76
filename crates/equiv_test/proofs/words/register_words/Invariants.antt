use Rattle.equiv_test.proofs.Common.{q_bits, listed_values}
use Rattle.equiv_test.proofs.Reading.{Laid}
use Rattle.equiv_test.proofs.words.register_words.Given as goal

abbrev pub invariant-loop-register : goal.invariant-loop-register
invariant-loop-register l = Laid (listed_values l.assignment) (q_bits l.registers) l.first l.register-index l.next l.words.items
