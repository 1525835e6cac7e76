use Rattle.cycle_sim.proofs.Common.{take, driving, AllGates}
use Rattle.cycle_sim.proofs.wiring.gates.Given as goal

abbrev pub invariant-loop-cell : goal.invariant-loop-cell
invariant-loop-cell l = AllGates (driving l.netlist.raw) l.gates.items (take l.cell-index l.netlist.raw.cells)
