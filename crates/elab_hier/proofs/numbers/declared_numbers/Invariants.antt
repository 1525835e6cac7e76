use Rattle.elab_hier.proofs.Common.{◌≡◌, ◌++◌, drop, declared_numbers}
use Rattle.elab_hier.proofs.numbers.declared_numbers.Given as goal

abbrev pub invariant-loop-item : goal.invariant-loop-item
invariant-loop-item l = l.numbers.items ++ declared_numbers (drop l.item-index l.items) ≡ declared_numbers l.items
