use Rattle.std.proofs.Common.{add-one, arith}
use Rattle.process_events.proofs.Lists.{edge_more}
use Rattle.process_events.proofs.sensitivity.any_edge.Goals as goal

pub loop-event-preserved : goal.loop-event-preserved
loop-event-preserved c = rw add-one (edge_more c.args.events.now c.loop-event.event-index c.event-item.result c.loop-event.found c.is_edge.result c.either-found.result c.event-item.is (omega arith) c.loop-event.invariant c.is_edge.ensures c.either-found.ensures)
