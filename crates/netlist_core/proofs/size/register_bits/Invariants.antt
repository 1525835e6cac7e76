use Rattle.netlist_core.proofs.Common.{◌≡◌, ◌+◌, ◌≤◌, ◌-◌, ◌^◌, drop, q_bits, all_bits, counted}
use Rattle.netlist_core.proofs.size.register_bits.Given as goal

abbrev pub invariant-loop-register : goal.invariant-loop-register
invariant-loop-register l = (counted (l.total + all_bits (q_bits (drop l.register-index l.registers))) ≡ counted (all_bits (q_bits l.registers))) × (l.total ≤ 2 ^ 64 - 1)
