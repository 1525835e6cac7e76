use Rattle.process_cells.proofs.Firsts.{firsts_more, firsts_all}
use Rattle.process_cells.proofs.variables.firsts_of.Goals as goal

pub loop-write-preserved : goal.loop-write-preserved
loop-write-preserved c = firsts_more c.loop-write.found.items c.note.new.found.items c.args.writes.now c.loop-write.write-index _ c.loop-write-test.true c.loop-write.invariant c.in_ok-note.ensures

pub returns : goal.returns
returns c = firsts_all c.loop-write.found.items c.args.writes.now c.loop-write.write-index c.loop-write-test.false c.loop-write.auto.write-index-end c.loop-write.invariant
