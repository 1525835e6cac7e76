use Rattle.flat_assigns.proofs.Common.{drop, map, IsJoinedTo, first_bits, placed}
use Rattle.flat_assigns.proofs.joining.join_part.Given as goal

abbrev pub invariant-loop-k : goal.invariant-loop-k
invariant-loop-k l = IsJoinedTo l.fn.builder l.builder (map (placed l.slice.signal) (first_bits l.slice l.k)) (drop l.at l.bits)
