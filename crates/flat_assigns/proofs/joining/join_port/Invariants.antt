use Rattle.flat_assigns.proofs.Common.{places_from, IsJoinedTo}
use Rattle.flat_assigns.proofs.joining.join_port.Given as goal

abbrev pub invariant-loop-k : goal.invariant-loop-k
invariant-loop-k l = IsJoinedTo l.fn.builder l.builder (places_from l.port 0 l.k) l.bits
