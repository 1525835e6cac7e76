use Rattle.vlog_grammar.proofs.Common.{reverse, work_of, ExpandsTo}
use Rattle.vlog_grammar.proofs.reader.expand.Given as goal

abbrev pub invariant-loop-symbol : goal.invariant-loop-symbol
invariant-loop-symbol l = ExpandsTo l.next (reverse l.fn.stack.items) (reverse l.stack.items) l.fn.steps.items l.steps.items

abbrev pub decreases-loop-symbol : goal.decreases-loop-symbol
decreases-loop-symbol l = work_of (reverse l.stack.items)
