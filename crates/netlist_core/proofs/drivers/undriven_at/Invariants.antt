use Rattle.netlist_core.proofs.Common.{◌≡◌, drop, driver_at, undriven_at}
use Rattle.netlist_core.proofs.drivers.undriven_at.Given as goal

abbrev pub invariant-loop-port : goal.invariant-loop-port
invariant-loop-port l = undriven_at (driver_at l.table) (drop l.port-index l.ports) l.found ≡ undriven_at (driver_at l.table) l.ports l.initial.found
