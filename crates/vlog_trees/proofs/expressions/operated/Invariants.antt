use Rattle.vlog_trees.proofs.Common.{◌≡◌, length, operated, first, rest, expr_of}
use Rattle.vlog_trees.proofs.expressions.operated.Given as goal

abbrev pub invariant-loop-value : goal.invariant-loop-value
invariant-loop-value l = operated l.operand l.parts ≡ operated (expr_of (first l.fn.parts)) (rest l.fn.parts)

abbrev pub decreases-loop-value : goal.decreases-loop-value
decreases-loop-value l = length l.parts
