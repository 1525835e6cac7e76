use Rattle.std.proofs.Common.{add-one, arith}
use Rattle.process_events.specs.Naming.{item_reads, stmt_reads}
use Rattle.process_events.proofs.Lists.{any_more}
use Rattle.process_events.proofs.reads.+walk.Goals as goal

pub any_stmt_reads-loop-stmt-preserved : goal.any_stmt_reads-loop-stmt-preserved
any_stmt_reads-loop-stmt-preserved t c = rw add-one (any_more (stmt_reads c.args.name.now) c.args.body.now c.loop-stmt.stmt-index c.stmt-item.result c.loop-stmt.found c.stmt_reads.result c.either-found.result c.stmt-item.is (omega arith) c.loop-stmt.invariant c.stmt_reads.ensures c.either-found.ensures)

pub any_item_reads-loop-item-preserved : goal.any_item_reads-loop-item-preserved
any_item_reads-loop-item-preserved t c = rw add-one (any_more (item_reads c.args.name.now) c.args.items.now c.loop-item.item-index c.item-item.result c.loop-item.found c.item_reads.result c.either-found.result c.item-item.is (omega arith) c.loop-item.invariant c.item_reads.ensures c.either-found.ensures)
