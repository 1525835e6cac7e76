use Rattle.elab_finish.proofs.Common.{take, registers_in, AreSlots}
use Rattle.elab_finish.proofs.ordering.slots.Given as goal

abbrev pub invariant-loop-number : goal.invariant-loop-number
invariant-loop-number l = AreSlots l.builder (registers_in l.builder (take l.number-index l.declared)) l.found.items
