use Rattle.vlog_trees.proofs.Common.{◌≡◌, drop, run}
use Rattle.vlog_trees.proofs.build.build.Given as goal

abbrev pub invariant-loop-i : goal.invariant-loop-i
invariant-loop-i l = l.values ≡ run l.tokens (drop l.i l.steps)
