use Rattle.flat_assigns.proofs.Common.{[], None, take, slices_of, HasSeen, places_of, IsFirstWritten, targets}
use Rattle.flat_assigns.proofs.second.second_writer.Given as goal

abbrev pub invariant-loop-slice : goal.invariant-loop-slice
invariant-loop-slice l = IsFirstWritten l.builder l.inputs [] (targets (slices_of (take l.slice-index l.slices))) None × HasSeen l.builder l.seen (places_of (targets (slices_of (take l.slice-index l.slices))))
