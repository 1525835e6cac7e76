use Rattle.netlist_core.proofs.Common.{◌≡◌, ◌+◌, ◌≤◌, ◌-◌, ◌^◌, drop, bits_at, all_bits, counted}
use Rattle.netlist_core.proofs.size.port_bits.Given as goal

abbrev pub invariant-loop-port : goal.invariant-loop-port
invariant-loop-port l = (counted (l.total + all_bits (bits_at (drop l.port-index l.ports))) ≡ counted (all_bits (bits_at l.ports))) × (l.total ≤ 2 ^ 64 - 1)
