use Rattle.std.proofs.Common.{◌≡◌, ◌≤◌, length}
use Rattle.clause_cone.proofs.cone.left_out.Given as goal

abbrev pub invariant-loop-left : goal.invariant-loop-left
invariant-loop-left l = record {
  count : length l.flags.items ≡ length l.store;
  within : l.left ≤ length l.store;
}

abbrev pub decreases-loop-left : goal.decreases-loop-left
decreases-loop-left l = l.left
