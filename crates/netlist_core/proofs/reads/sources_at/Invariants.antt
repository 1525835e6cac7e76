use Rattle.netlist_core.proofs.Common.{◌≡◌, ◌++◌, drop, driver_at, sources_at}
use Rattle.netlist_core.proofs.reads.sources_at.Given as goal

abbrev pub invariant-loop-port : goal.invariant-loop-port
invariant-loop-port l = l.found.items ++ sources_at (driver_at l.table) (drop l.port-index l.ports) ≡ sources_at (driver_at l.table) l.ports
