use Rattle.flat_scopes.proofs.Common.{◌≡◌, ◌++◌, [], drop, named_wires}
use Rattle.flat_scopes.proofs.wire.named_wires.Given as goal

abbrev pub invariant-loop-connection : goal.invariant-loop-connection
invariant-loop-connection l = l.wires.items ++ named_wires l.ports l.seen (drop l.connection-index l.connections) ≡ named_wires l.ports [] l.connections
