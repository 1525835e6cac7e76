use Rattle.flat_instances.proofs.Common.{◌≡◌, ◌++◌, drop, opened_of, wired}
use Rattle.flat_instances.proofs.joint.add_wires.Given as goal

abbrev pub invariant-loop-wire : goal.invariant-loop-wire
invariant-loop-wire l = l.items.items ++ wired l.joint.outside l.joint.inside (opened_of l.child) (drop l.wire-index l.wires) ≡ l.initial.items.items ++ wired l.joint.outside l.joint.inside (opened_of l.child) l.wires
