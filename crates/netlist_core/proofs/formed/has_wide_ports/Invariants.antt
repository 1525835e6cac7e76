use Rattle.netlist_core.proofs.Common.{◌↔◌, drop, AllWide}
use Rattle.netlist_core.proofs.formed.has_wide_ports.Given as goal

abbrev pub invariant-loop-port : goal.invariant-loop-port
invariant-loop-port l = AllWide (drop l.port-index l.ports) ↔ AllWide l.ports
