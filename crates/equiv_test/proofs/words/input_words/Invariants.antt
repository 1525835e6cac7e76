use Rattle.equiv_test.proofs.Common.{bits_at, listed_values}
use Rattle.equiv_test.proofs.Reading.{Laid}
use Rattle.equiv_test.proofs.words.input_words.Given as goal

abbrev pub invariant-loop-port : goal.invariant-loop-port
invariant-loop-port l = Laid (listed_values l.assignment) (bits_at l.ports) l.initial.next l.port-index l.next l.words.items
