use Rattle.elab_finish.proofs.Orders.{filled_step}
use Rattle.elab_finish.proofs.ordering.all_filled.Goals as goal

pub loop-slot-preserved : goal.loop-slot-preserved
loop-slot-preserved c = filled_step c.args.registers.now c.args.slots.now c.loop-slot.slot-index c.slot-item.result c.in_ok-filled.field-0 c.loop-slot.found.items c.push.new.self.items c.slot-item.is c.loop-slot-test.true c.loop-slot.invariant c.in_ok-filled.ensures c.in_ok-push.ensures.items
