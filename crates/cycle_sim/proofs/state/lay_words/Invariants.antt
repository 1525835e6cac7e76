use Rattle.cycle_sim.proofs.Common.{◌≡◌, ◌++◌, take, drop, numbers_of, AreHeld}
use Rattle.cycle_sim.proofs.state.lay_words.Given as goal

abbrev pub invariant-loop-i : goal.invariant-loop-i
invariant-loop-i l = AreHeld l.netlist l.table.items l.marks.items × (l.table.items ≡ numbers_of (take l.i l.words) ++ drop l.i l.initial.table.items)
