use Rattle.elab_hier.proofs.Common.{take, AreFlags}
use Rattle.elab_hier.proofs.flags.flags_of.Given as goal

abbrev pub invariant-loop-number : goal.invariant-loop-number
invariant-loop-number l = AreFlags l.count (take l.number-index l.numbers) l.flags.items
