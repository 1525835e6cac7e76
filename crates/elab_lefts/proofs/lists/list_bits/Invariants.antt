use Rattle.elab_lefts.proofs.Common.{◌≡◌, ◌++◌, map, take, bit_left}
use Rattle.flat_assigns.specs.Bits.{targets_of}
use Rattle.elab_lefts.proofs.lists.list_bits.Given as goal

abbrev pub invariant-loop-bit : goal.invariant-loop-bit
invariant-loop-bit l = l.lefts.items ≡ l.fn.lefts.items ++ map bit_left (targets_of (take l.bit-index l.bits))
