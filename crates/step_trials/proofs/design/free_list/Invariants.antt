use Rattle.step_trials.proofs.Common.{◌≡◌, ◌++◌, drop, bits_at, q_bits, joined}
use Rattle.step_trials.proofs.design.free_list.Given as goal

abbrev pub invariant-loop-register : goal.invariant-loop-register
invariant-loop-register l = l.bits.items ++ joined (q_bits (drop l.register-index l.registers)) ≡ joined (bits_at l.inputs) ++ joined (q_bits l.registers)
