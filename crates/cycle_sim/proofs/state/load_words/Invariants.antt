use Rattle.cycle_sim.proofs.Common.{◌≡◌, ◌++◌, take, drop, length, numbers_of}
use Rattle.cycle_sim.proofs.state.load_words.Given as goal

abbrev pub invariant-loop-i : goal.invariant-loop-i
invariant-loop-i l = (length l.registers.items ≡ length l.initial.registers.items) × (l.registers.items ≡ numbers_of (take l.i l.words) ++ drop l.i l.initial.registers.items)
