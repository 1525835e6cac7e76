use Rattle.tb_assigns.proofs.Common.{listed}
use Rattle.tb_assigns.proofs.LastFirst.{piece_written}
use Rattle.tb_assigns.proofs.writing.updates_of.Goals as goal

pub loop-piece-preserved : goal.loop-piece-preserved
loop-piece-preserved c = piece_written c.next.new.self.iter.rest.now c.loop-piece.piece-iterator.iter.rest.now c.in-Some.piece.now c.loop-piece.updates.items (listed c.update_of.result) c.push.new.updates.items c.loop-piece.rest c.without_low_bits-rest.result _ c.in-Some.ensures.steps c.update_of.ensures c.in_ok-push.ensures c.without_low_bits-rest.ensures c.loop-piece.invariant
