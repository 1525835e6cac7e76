use Rattle.flat_instances.proofs.Common.{◌≡◌, ◌++◌, drop, opened_of, unwired}
use Rattle.flat_instances.proofs.joint.add_unwired.Given as goal

abbrev pub invariant-loop-port : goal.invariant-loop-port
invariant-loop-port l = l.items.items ++ unwired (opened_of l.child) l.wires.wires.now (drop l.port-index l.ports) ≡ l.initial.items.items ++ unwired (opened_of l.child) l.wires.wires.now l.ports
