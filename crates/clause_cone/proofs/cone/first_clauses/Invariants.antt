use Rattle.std.proofs.Common.{◌≤◌, length}
use Rattle.clause_cone.proofs.cone.first_clauses.Given as goal

abbrev pub invariant-loop-left : goal.invariant-loop-left
invariant-loop-left l = l.left ≤ length l.store

abbrev pub decreases-loop-left : goal.decreases-loop-left
decreases-loop-left l = l.left
