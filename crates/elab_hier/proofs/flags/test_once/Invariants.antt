use Rattle.elab_hier.proofs.Common.{take, NoneTwice, AreFlags}
use Rattle.elab_hier.proofs.flags.test_once.Given as goal

abbrev pub invariant-loop-number : goal.invariant-loop-number
invariant-loop-number l = record { flags : AreFlags l.count (take l.number-index l.numbers) l.seen.items; once : NoneTwice (take l.number-index l.numbers) }
