use Rattle.flat_scopes.proofs.Common.{◌≡◌, ◌++◌, drop, undeclared, opened_of}
use Rattle.flat_scopes.proofs.opening.Opening.undeclared.Given as goal

abbrev pub invariant-loop-name : goal.invariant-loop-name
invariant-loop-name l = l.steps.items ++ undeclared (opened_of l.self) (drop l.name-index l.names) ≡ undeclared (opened_of l.self) l.names
