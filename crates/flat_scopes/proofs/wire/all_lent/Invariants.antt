use Rattle.flat_scopes.proofs.Common.{◌≡◌, ◌++◌, drop}
use Rattle.flat_scopes.proofs.wire.all_lent.Given as goal

abbrev pub invariant-loop-name : goal.invariant-loop-name
invariant-loop-name l = l.list.items ++ drop l.name-index l.names ≡ l.names
