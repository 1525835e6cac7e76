use Rattle.tb_refusals.proofs.Common.{take, AreFaultless, context_of, HasSeen}
use Rattle.tb_refusals.proofs.first.first_fault.Given as goal

abbrev pub invariant-loop-item : goal.invariant-loop-item
invariant-loop-item l = HasSeen (context_of l.context) (take l.item-index l.items) l.seen × AreFaultless (context_of l.context) l.items l.item-index
