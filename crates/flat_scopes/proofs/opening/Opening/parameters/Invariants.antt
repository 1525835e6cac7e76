use Rattle.flat_scopes.proofs.Common.{◌≡◌, drop, names_of, parameter_names, opened_of}
use Rattle.flat_scopes.proofs.opening.Opening.parameters.Given as goal

abbrev pub invariant-loop-assignment : goal.invariant-loop-assignment
invariant-loop-assignment l = parameter_names l.head (names_of l.outside) (opened_of l.self) l.declaration.kind l.bits (drop l.assignment-index l.declaration.assignments) ≡ parameter_names l.head (names_of l.outside) (opened_of l.initial.self) l.declaration.kind l.bits l.declaration.assignments
