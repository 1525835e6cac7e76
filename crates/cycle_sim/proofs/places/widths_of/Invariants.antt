use Rattle.cycle_sim.proofs.Common.{◌≡◌, map, length, take, driving}
use Rattle.cycle_sim.proofs.places.widths_of.Given as goal

abbrev pub invariant-loop-driver : goal.invariant-loop-driver
invariant-loop-driver l = l.widths.items ≡ map length (take l.driver (driving l.netlist.raw))
