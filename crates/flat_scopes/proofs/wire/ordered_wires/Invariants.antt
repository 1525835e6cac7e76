use Rattle.flat_scopes.proofs.Common.{◌≡◌, ◌++◌, drop, ordered_wires}
use Rattle.flat_scopes.proofs.wire.ordered_wires.Given as goal

abbrev pub invariant-loop-place : goal.invariant-loop-place
invariant-loop-place l = l.wires.items ++ ordered_wires l.at (drop l.place l.ports) (drop l.place l.values) ≡ ordered_wires l.at l.ports l.values
