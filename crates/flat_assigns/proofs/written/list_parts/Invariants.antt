use Rattle.flat_assigns.proofs.Common.{◌≡◌, take, targets_of, slices_of, targets}
use Rattle.flat_assigns.proofs.written.list_parts.Given as goal

abbrev pub invariant-loop-part : goal.invariant-loop-part
invariant-loop-part l = targets_of l.bits.items ≡ targets (slices_of (take l.part-index l.parts))
