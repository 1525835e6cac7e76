use Rattle.netlist_core.proofs.Common.{◌↔◌, drop, bits_at, AllWide}
use Rattle.netlist_core.proofs.formed.are_wide.Given as goal

abbrev pub invariant-loop-port : goal.invariant-loop-port
invariant-loop-port l = AllWide (bits_at (drop l.port-index l.ports)) ↔ AllWide (bits_at l.ports)
