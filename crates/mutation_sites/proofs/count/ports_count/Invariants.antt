use Rattle.mutation_sites.proofs.Common.{◌≡◌, ◌+◌, drop, ports_count}
use Rattle.mutation_sites.proofs.count.ports_count.Given as goal

abbrev pub invariant-loop-bits : goal.invariant-loop-bits
invariant-loop-bits l = l.count + ports_count l.modes (drop l.bits-index l.ports) ≡ ports_count l.modes l.ports
