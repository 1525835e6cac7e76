use Rattle.mutation_sites.proofs.Common.{◌≡◌, ◌++◌, drop, ports_connected}
use Rattle.mutation_sites.proofs.wiring.ports_connected.Given as goal

abbrev pub invariant-loop-port : goal.invariant-loop-port
invariant-loop-port l = l.items.items ++ ports_connected l.wiring.readers l.wiring.new l.cell l.port (drop l.port l.ports) ≡ ports_connected l.wiring.readers l.wiring.new l.cell 0 l.ports
