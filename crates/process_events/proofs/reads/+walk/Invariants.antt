use Rattle.std.proofs.Common.{◌≡◌, map, take}
use Rattle.process_events.specs.Naming.{any_of, item_reads, stmt_reads}
use Rattle.process_events.proofs.reads.+walk.Given as goal

abbrev pub invariant-any_stmt_reads-loop-stmt : goal.invariant-any_stmt_reads-loop-stmt
invariant-any_stmt_reads-loop-stmt l = l.found ≡ any_of (map (stmt_reads l.name) (take l.stmt-index l.body))

abbrev pub invariant-any_item_reads-loop-item : goal.invariant-any_item_reads-loop-item
invariant-any_item_reads-loop-item l = l.found ≡ any_of (map (item_reads l.name) (take l.item-index l.items))
