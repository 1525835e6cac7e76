use Rattle.std.proofs.Common.{add-one, arith}
use Rattle.process_events.specs.Naming.{left_reads}
use Rattle.process_events.proofs.Lists.{any_more}
use Rattle.process_events.proofs.reads.+left.Goals as goal

pub any_left_reads-loop-part-preserved : goal.any_left_reads-loop-part-preserved
any_left_reads-loop-part-preserved t c = rw add-one (any_more (left_reads c.args.name.now) c.args.parts.now c.loop-part.part-index c.part-item.result c.loop-part.found c.left_reads.result c.either-found.result c.part-item.is (omega arith) c.loop-part.invariant c.left_reads.ensures c.either-found.ensures)
