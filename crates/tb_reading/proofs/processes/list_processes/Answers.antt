use Rattle.tb_reading.proofs.Common.{arith, item_processes}
use Rattle.tb_reading.proofs.Listing.{next_wait}
use Rattle.tb_reading.proofs.processes.list_processes.Goals as goal

pub loop-item-preserved : goal.loop-item-preserved
loop-item-preserved c = next_wait (item_processes c.args.kind) c.args.code.now c.loop-item.code c.list_item.new.code c.loop-item.list.items c.list_item.new.list.items c.args.items.now c.loop-item.item-index c.item-item.result (omega arith) c.item-item.is c.loop-item.invariant c.in_ok-list_item.ensures
