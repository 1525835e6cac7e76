use Rattle.mutation_sites.proofs.Common.{◌≡◌, ◌+◌, drop, registers_count}
use Rattle.mutation_sites.proofs.count.registers_count.Given as goal

abbrev pub invariant-loop-register : goal.invariant-loop-register
invariant-loop-register l = l.count + registers_count l.modes (drop l.register-index l.registers) ≡ registers_count l.modes l.registers
