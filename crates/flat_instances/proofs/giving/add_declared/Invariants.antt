use Rattle.flat_instances.proofs.Common.{◌≡◌, ◌++◌, drop, map, name_of}
use Rattle.flat_instances.proofs.giving.add_declared.Given as goal

abbrev pub invariant-loop-assignment : goal.invariant-loop-assignment
invariant-loop-assignment l = l.names.items ++ map name_of (drop l.assignment-index l.declaration.assignments) ≡ l.initial.names.items ++ map name_of l.declaration.assignments
