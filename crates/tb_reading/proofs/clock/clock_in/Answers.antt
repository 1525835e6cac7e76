use Rattle.tb_reading.proofs.Common.{arith}
use Rattle.tb_reading.proofs.Judging.{generator_here, generator_later}
use Rattle.tb_reading.proofs.clock.clock_in.Goals as goal

pub loop-item-preserved : goal.loop-item-preserved
loop-item-preserved c = generator_later c.args.items.now c.loop-item.item-index c.item-item.result (omega arith) c.item-item.is c.loop-item.invariant c.in_default.not-Clocks

pub returns-in-Clocks : goal.returns-in-Clocks
returns-in-Clocks c = rw (← (generator_here c.args.items.now c.loop-item.item-index c.item-item.result c.in-Clocks.field-0 c.in-Clocks.generator (omega arith) c.item-item.is c.loop-item.invariant c.in-Clocks.is)) c.clock_of.ensures
