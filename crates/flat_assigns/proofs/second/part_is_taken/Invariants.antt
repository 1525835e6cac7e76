use Rattle.flat_assigns.proofs.Common.{List, false, Place, first_bits, HasSeen, IsPassed}
use Rattle.flat_assigns.proofs.second.part_is_taken.Given as goal

abbrev pub invariant-loop-k : goal.invariant-loop-k
invariant-loop-k l = (before : List Place) → HasSeen l.builder l.fn.seen before → IsPassed l.builder l.inputs before l.slice.span l.slice.signal (first_bits l.slice l.k) l.seen false
