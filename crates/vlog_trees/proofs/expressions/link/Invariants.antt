use Rattle.vlog_trees.proofs.Common.{◌≡◌, length, first, rest, second, span_of, expr_of, linked}
use Rattle.vlog_trees.proofs.expressions.link.Given as goal

abbrev pub invariant-loop-right : goal.invariant-loop-right
invariant-loop-right l = linked l.span l.fn.operator l.right l.parts ≡ linked (span_of (first l.fn.parts)) l.fn.operator (expr_of (second l.fn.parts)) (rest (rest l.fn.parts))

abbrev pub decreases-loop-right : goal.decreases-loop-right
decreases-loop-right l = length l.parts
