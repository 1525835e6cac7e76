use Rattle.mutation_sites.proofs.Common.{◌≡◌, ◌++◌, drop, ports_sites}
use Rattle.mutation_sites.proofs.site_list.add_ports.Given as goal

abbrev pub invariant-loop-port : goal.invariant-loop-port
invariant-loop-port l = l.list.items ++ ports_sites l.modes l.place l.port (drop l.port l.ports) ≡ l.fn.list.items ++ ports_sites l.modes l.place 0 l.ports
