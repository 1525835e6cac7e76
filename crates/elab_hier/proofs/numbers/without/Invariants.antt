use Rattle.elab_hier.proofs.Common.{◌≡◌, ◌++◌, drop, without}
use Rattle.elab_hier.proofs.numbers.without.Given as goal

abbrev pub invariant-loop-number : goal.invariant-loop-number
invariant-loop-number l = l.left.items ++ without l.clock (drop l.number-index l.numbers) ≡ without l.clock l.numbers
