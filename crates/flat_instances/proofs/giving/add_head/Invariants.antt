use Rattle.flat_instances.proofs.Common.{◌≡◌, ◌++◌, drop, head_names}
use Rattle.flat_instances.proofs.giving.add_head.Given as goal

abbrev pub invariant-loop-declaration : goal.invariant-loop-declaration
invariant-loop-declaration l = l.names.items ++ head_names (drop l.declaration-index l.declarations) ≡ l.initial.names.items ++ head_names l.declarations
