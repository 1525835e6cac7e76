use Rattle.mutation_sites.proofs.Common.{◌≡◌, drop, q_bits, times_at}
use Rattle.mutation_sites.proofs.unused.is_at_q.Given as goal

abbrev pub invariant-loop-register : goal.invariant-loop-register
invariant-loop-register l = times_at l.net (q_bits l.registers) ≡ times_at l.net (q_bits (drop l.register-index l.registers))
