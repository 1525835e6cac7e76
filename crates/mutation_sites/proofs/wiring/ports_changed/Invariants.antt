use Rattle.mutation_sites.proofs.Common.{◌≡◌, map, take, port_connected}
use Rattle.mutation_sites.proofs.wiring.ports_changed.Given as goal

abbrev pub invariant-loop-port : goal.invariant-loop-port
invariant-loop-port l = l.items.items ≡ map (port_connected l.change l.new) (take l.port-index l.port-items)
