use Rattle.cycle_sim.proofs.Common.{◌≡◌, List, take, Bit, all_bits, AllWhole, ArePlaced}
use Rattle.cycle_sim.proofs.wiring.wires_of.Given as goal

abbrev pub invariant-loop-bit : goal.invariant-loop-bit
invariant-loop-bit l = (drivers : List (List Bit)) → ArePlaced drivers l.places l.bits → AllWhole drivers l.parts.items × (all_bits drivers l.parts.items ≡ take l.bit-index l.bits)
