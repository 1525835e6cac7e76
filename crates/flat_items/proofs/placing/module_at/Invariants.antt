use Rattle.flat_items.proofs.Common.{◌≡◌, drop, module_at, module_from}
use Rattle.flat_items.proofs.placing.module_at.Given as goal

abbrev pub invariant-loop-number : goal.invariant-loop-number
invariant-loop-number l = module_from l.number (drop l.number l.modules) l.name ≡ module_at l.modules l.name
