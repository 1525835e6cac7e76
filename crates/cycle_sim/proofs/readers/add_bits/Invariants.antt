use Rattle.cycle_sim.proofs.Common.{◌≤◌, take, times, AreAdded}
use Rattle.cycle_sim.proofs.readers.add_bits.Given as goal

abbrev pub invariant-loop-bit : goal.invariant-loop-bit
invariant-loop-bit l = AreAdded (λ n. 1 ≤ times n (take l.bit-index l.bits)) l.places l.place l.initial.readers.items l.readers.items
