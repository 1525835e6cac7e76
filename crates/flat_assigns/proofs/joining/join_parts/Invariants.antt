use Rattle.flat_assigns.proofs.Common.{◌≡◌, ◌≤◌, length, drop, IsJoinedTo, slices_of, all_places}
use Rattle.flat_assigns.proofs.joining.join_parts.Given as goal

abbrev pub invariant-loop-k : goal.invariant-loop-k
invariant-loop-k l = record {
  within : l.k ≤ length l.slices;
  joined : IsJoinedTo l.fn.builder l.builder (all_places (slices_of (drop l.k l.slices))) l.bits;
  at : l.at ≡ length (all_places (slices_of (drop l.k l.slices)));
}

abbrev pub decreases-loop-k : goal.decreases-loop-k
decreases-loop-k l = l.k
