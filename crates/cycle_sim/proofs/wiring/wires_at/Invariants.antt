use Rattle.cycle_sim.proofs.Common.{◌≡◌, List, map, length, take, Bit, AllWired, ArePortsPlaced}
use Rattle.cycle_sim.proofs.wiring.wires_at.Given as goal

abbrev pub invariant-loop-port : goal.invariant-loop-port
invariant-loop-port l = (drivers : List (List Bit)) → ArePortsPlaced drivers l.places l.ports → map length drivers ≡ l.widths → AllWired drivers l.wires.items (take l.port-index l.ports)
