use Rattle.netlist_core.proofs.Common.{◌↔◌, drop, bits_at, AllPortsNets}
use Rattle.netlist_core.proofs.formed.are_entered.Given as goal

abbrev pub invariant-loop-port : goal.invariant-loop-port
invariant-loop-port l = AllPortsNets (bits_at (drop l.port-index l.ports)) ↔ AllPortsNets (bits_at l.ports)
