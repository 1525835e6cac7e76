use Rattle.process_latches.proofs.Latching.{loose_is}
use Rattle.process_latches.proofs.latches.is_latch.Goals as goal

pub returns : goal.returns
returns c = λ s own. loose_is s c.args.marks.now c.args.write c.bits-covered.result c.bits-early.result c.some_loose.result c.bits-covered.ensures c.bits-early.ensures c.some_loose.ensures own
