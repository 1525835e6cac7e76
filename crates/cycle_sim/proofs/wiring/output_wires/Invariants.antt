use Rattle.cycle_sim.proofs.Common.{take, bits_at, driving, AllWired}
use Rattle.cycle_sim.proofs.wiring.output_wires.Given as goal

abbrev pub invariant-loop-port : goal.invariant-loop-port
invariant-loop-port l = AllWired (driving l.netlist.raw) l.wires.items (take l.port-index (bits_at l.netlist.raw.outputs))
