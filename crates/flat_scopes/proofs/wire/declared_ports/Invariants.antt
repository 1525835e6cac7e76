use Rattle.flat_scopes.proofs.Common.{◌≡◌, ◌++◌, drop, declared_ports}
use Rattle.flat_scopes.proofs.wire.declared_ports.Given as goal

abbrev pub invariant-loop-declaration : goal.invariant-loop-declaration
invariant-loop-declaration l = l.ports.items ++ declared_ports (drop l.declaration-index l.declarations) ≡ declared_ports l.declarations
