use Rattle.elab_items.proofs.Common.{◌↔◌, drop, SomeBitWritten}
use Rattle.elab_items.proofs.writers.some_bit_written.Given as goal

abbrev pub invariant-loop-bit : goal.invariant-loop-bit
invariant-loop-bit l = SomeBitWritten l.builder (drop l.bit-index l.bits) ↔ SomeBitWritten l.builder l.bits
