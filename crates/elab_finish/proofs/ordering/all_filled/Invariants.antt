use Rattle.elab_finish.proofs.Common.{take, AreFilled}
use Rattle.elab_finish.proofs.ordering.all_filled.Given as goal

abbrev pub invariant-loop-slot : goal.invariant-loop-slot
invariant-loop-slot l = AreFilled l.registers (take l.slot-index l.slots) l.found.items
