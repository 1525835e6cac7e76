use Rattle.lrat_checker.proofs.Common.{◌≤◌, length}
use Rattle.lrat_checker.proofs.guards.standing_literal.Given as goal

abbrev pub invariant-loop-left : goal.invariant-loop-left
invariant-loop-left l = l.left ≤ length l.clause

abbrev pub decreases-loop-left : goal.decreases-loop-left
decreases-loop-left l = l.left
