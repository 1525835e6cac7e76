use Rattle.process_latches.proofs.Common.{false, [], take, names_of, no_bits, Added, all_sound_reads}
use Rattle.process_latches.proofs.marks.Marks.read_all.Given as goal

abbrev pub invariant-loop-expr : goal.invariant-loop-expr
invariant-loop-expr l = Added no_bits (all_sound_reads (names_of l.scope) (take l.expr-index l.exprs)) [] false l.fn.self l.self
