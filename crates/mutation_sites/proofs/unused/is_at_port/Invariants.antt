use Rattle.mutation_sites.proofs.Common.{◌≡◌, drop, bits_at, times_at}
use Rattle.mutation_sites.proofs.unused.is_at_port.Given as goal

abbrev pub invariant-loop-port : goal.invariant-loop-port
invariant-loop-port l = times_at l.net (bits_at l.ports) ≡ times_at l.net (bits_at (drop l.port-index l.ports))
