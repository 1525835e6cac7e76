use Rattle.flat_instances.proofs.Common.{◌≡◌, ◌++◌, drop, ports_in}
use Rattle.flat_instances.proofs.wired.ports_in.Given as goal

abbrev pub invariant-loop-wire : goal.invariant-loop-wire
invariant-loop-wire l = l.names ++ ports_in (drop l.wire-index l.wires) ≡ ports_in l.wires
