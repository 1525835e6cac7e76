use Rattle.cycle_sim.proofs.Common.{◌≡◌, length, driving}
use Rattle.cycle_sim.proofs.Placed.{FirstPlaced}
use Rattle.cycle_sim.proofs.places.places_of.Given as goal

abbrev pub invariant-loop-driver : goal.invariant-loop-driver
invariant-loop-driver l = (length l.places.items ≡ l.netlist.nets) × FirstPlaced (driving l.netlist.raw) l.driver l.places.items
