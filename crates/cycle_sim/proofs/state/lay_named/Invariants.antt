use Rattle.cycle_sim.proofs.Common.{◌≡◌, ◌++◌, map, take, drop, slice_index, numbers_of, AreHeld}
use Rattle.cycle_sim.proofs.state.lay_named.Given as goal

abbrev pub invariant-loop-i : goal.invariant-loop-i
invariant-loop-i l = AreHeld l.netlist l.table.items l.marks.items × (l.table.items ≡ map (slice_index (numbers_of l.store)) (take l.i l.numbers) ++ drop l.i l.initial.table.items)
