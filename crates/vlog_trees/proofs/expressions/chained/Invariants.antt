use Rattle.vlog_trees.proofs.Common.{◌≡◌, length, chained}
use Rattle.vlog_trees.proofs.expressions.chained.Given as goal

abbrev pub invariant-loop-link : goal.invariant-loop-link
invariant-loop-link l = chained l.left l.chain ≡ chained l.fn.operand l.fn.chain

abbrev pub decreases-loop-link : goal.decreases-loop-link
decreases-loop-link l = length l.chain
