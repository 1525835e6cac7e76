use Rattle.netlist_core.proofs.Common.{◌≡◌, drop, known_of, after_ports}
use Rattle.netlist_core.proofs.drivers.Drivers.drive_ports.Given as goal

abbrev pub invariant-loop-port : goal.invariant-loop-port
invariant-loop-port l = after_ports (drop l.port-index l.ports) (known_of l.self) ≡ after_ports l.ports (known_of l.initial.self)
