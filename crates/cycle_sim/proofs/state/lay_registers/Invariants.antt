use Rattle.cycle_sim.proofs.Common.{◌≡◌, ◌+◌, ◌++◌, take, drop, length, AreHeld}
use Rattle.cycle_sim.proofs.state.lay_registers.Given as goal

abbrev pub invariant-loop-i : goal.invariant-loop-i
invariant-loop-i l = AreHeld l.netlist l.table.items l.marks.items × (l.table.items ≡ take (length l.netlist.raw.inputs) l.initial.table.items ++ take l.i l.numbers ++ drop (length l.netlist.raw.inputs + l.i) l.initial.table.items)
