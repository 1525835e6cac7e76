use Rattle.elab_items.proofs.Common.{◌≡◌, take, map, WrittenBit}
use Rattle.elab_items.proofs.numbers.bit_numbers.Given as goal

abbrev pub invariant-loop-bit : goal.invariant-loop-bit
invariant-loop-bit l = l.numbers.items ≡ map (λ (b : WrittenBit). b.signal) (take l.bit-index l.bits)
