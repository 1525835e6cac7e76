use Rattle.tb_items.proofs.Common.{◌≡◌, ◌++◌, drop, map}
use Rattle.tb_items.specs.declared.item.BenchItem.TheVariants as b
use Rattle.tb_items.proofs.step.add_assignments.Given as goal

abbrev pub invariant-loop-assignment : goal.invariant-loop-assignment
invariant-loop-assignment l = l.items.items ++ map b.Assigns (drop l.assignment-index l.assignments) ≡ l.initial.items.items ++ map b.Assigns l.assignments
