use Rattle.flat_assigns.proofs.Common.{◌≡◌, ◌++◌, targets_of, first_bits, bit_targets}
use Rattle.flat_assigns.proofs.written.list_part.Given as goal

abbrev pub invariant-loop-k : goal.invariant-loop-k
invariant-loop-k l = targets_of l.bits.items ≡ targets_of l.fn.bits.items ++ bit_targets l.slice.span l.slice.signal (first_bits l.slice l.k)
