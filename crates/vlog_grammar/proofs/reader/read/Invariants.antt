use Rattle.vlog_grammar.proofs.Common.{reverse, take, Reaches}
use Rattle.vlog_grammar.proofs.reader.read.Given as goal

abbrev pub invariant-loop-at : goal.invariant-loop-at
invariant-loop-at l = Reaches (take l.at l.tokens) l.steps.items (reverse l.stack.items)
