use Rattle.flat_items.proofs.Common.{◌≡◌, ℕ, ◌≤◌, List, drop, length, module_from, number_of}
use Rattle.flat_items.proofs.numbers.ModuleNumbers.of.Given as goal

abbrev pub invariant-loop-left : goal.invariant-loop-left
invariant-loop-left l = record {
  within : l.left ≤ length l.modules;
  numbered : (name : List ℕ) → number_of l.numbers name ≡ module_from l.left (drop l.left l.modules) name;
}

abbrev pub decreases-loop-left : goal.decreases-loop-left
decreases-loop-left l = l.left
