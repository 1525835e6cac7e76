use Rattle.cycle_sim.proofs.Common.{◌≤◌, take, times_at, AreAdded}
use Rattle.cycle_sim.proofs.readers.add_ports.Given as goal

abbrev pub invariant-loop-port : goal.invariant-loop-port
invariant-loop-port l = AreAdded (λ n. 1 ≤ times_at n (take l.port-index l.ports)) l.places l.place l.initial.readers.items l.readers.items
