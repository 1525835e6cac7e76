use Rattle.net_builder.proofs.Common.{◌≡◌, drop, q_bits, next_in, after_all_kept}
use Rattle.net_builder.proofs.steps.Steps.keep_registers.Given as goal

abbrev pub invariant-loop-register : goal.invariant-loop-register
invariant-loop-register l = after_all_kept (q_bits (drop l.register-index l.registers)) (next_in l.self) ≡ after_all_kept (q_bits l.registers) (next_in l.initial.self)
