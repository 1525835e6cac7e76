use Rattle.netlist_core.proofs.Common.{◌↔◌, drop, q_bits, AllPortsNets}
use Rattle.netlist_core.proofs.formed.are_stored.Given as goal

abbrev pub invariant-loop-register : goal.invariant-loop-register
invariant-loop-register l = AllPortsNets (q_bits (drop l.register-index l.registers)) ↔ AllPortsNets (q_bits l.registers)
