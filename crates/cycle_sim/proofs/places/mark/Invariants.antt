use Rattle.cycle_sim.proofs.Common.{◌≡◌, length, take, AreMarked}
use Rattle.cycle_sim.proofs.places.mark.Given as goal

abbrev pub invariant-loop-i : goal.invariant-loop-i
invariant-loop-i l = record {
  long : length l.places.items ≡ length l.initial.places.items;
  marked : AreMarked l.driver (take l.i l.bits) l.bits l.initial.places.items l.places.items;
}
