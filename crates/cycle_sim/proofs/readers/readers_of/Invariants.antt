use Rattle.cycle_sim.proofs.ReaderLists.{AreUpTo}
use Rattle.cycle_sim.proofs.readers.readers_of.Given as goal

abbrev pub invariant-loop-place : goal.invariant-loop-place
invariant-loop-place l = AreUpTo l.netlist l.places l.place l.readers.items
