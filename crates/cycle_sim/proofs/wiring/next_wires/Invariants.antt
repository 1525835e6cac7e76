use Rattle.cycle_sim.proofs.Common.{take, d_bits, driving, AllWired}
use Rattle.cycle_sim.proofs.wiring.next_wires.Given as goal

abbrev pub invariant-loop-register : goal.invariant-loop-register
invariant-loop-register l = AllWired (driving l.netlist.raw) l.wires.items (take l.register-index (d_bits l.netlist.raw.registers))
