use Rattle.process_latches.proofs.Common.{add-one, arith}
use Rattle.process_latches.proofs.Mixing.{mixed_more}
use Rattle.process_latches.proofs.mixed.mixed_refusal.Goals as goal

pub loop-write-preserved : goal.loop-write-preserved
loop-write-preserved c =
    let ws = c.args.writes.now in
    rw add-one (mixed_more ws c.loop-write.write-index _ c.loop-write.found c.mixed_at.result c.earlier-found.result (omega arith) c.earlier-found.ensures c.loop-write.invariant (c.mixed_at.ensures ws c.in_ok-firsts_of.ensures c.in_ok-firsts_of-2.ensures))
