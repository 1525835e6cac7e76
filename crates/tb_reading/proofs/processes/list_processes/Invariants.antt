use Rattle.tb_reading.proofs.Common.{[], take, processes, AddsWaiting}
use Rattle.tb_reading.proofs.processes.list_processes.Given as goal

abbrev pub invariant-loop-item : goal.invariant-loop-item
invariant-loop-item l = AddsWaiting l.fn.code l.code [] l.list.items (processes l.kind (take l.item-index l.items))
