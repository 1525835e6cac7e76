use Rattle.flat_scopes.proofs.Common.{◌≡◌, ◌++◌, drop, map, name_in}
use Rattle.flat_scopes.proofs.wire.add_declared.Given as goal

abbrev pub invariant-loop-name : goal.invariant-loop-name
invariant-loop-name l = l.ports.items ++ map name_in (drop l.name-index l.declaration.names) ≡ l.initial.ports.items ++ map name_in l.declaration.names
