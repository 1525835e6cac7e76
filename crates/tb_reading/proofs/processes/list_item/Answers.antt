use Rattle.tb_reading.proofs.Listing.{none_waits, no_processes}
use Rattle.tb_reading.proofs.processes.list_item.Goals as goal

pub returns : goal.returns
returns c = rw (no_processes c.args.kind c.args.item.now c.in_default.not-Runs) (none_waits c.args.code.now c.args.list.now.items)
