use Rattle.tb_reading.proofs.Common.{sym, ◌∙◌, arith, is_generator}
use Rattle.tb_reading.proofs.Judging.{some_here, some_later, some_nowhere}
use Rattle.tb_reading.proofs.judge.has_clock.Goals as goal

pub returns-then-is_clock : goal.returns-then-is_clock
returns-then-is_clock c = some_here is_generator c.args.items.now c.loop-item.item-index c.item-item.result (omega arith) c.item-item.is c.loop-item.invariant (sym c.is_clock.ensures ∙ c.if-is_clock.true)

pub loop-item-preserved : goal.loop-item-preserved
loop-item-preserved c = some_later is_generator c.args.items.now c.loop-item.item-index c.item-item.result (omega arith) c.item-item.is c.loop-item.invariant (sym c.is_clock.ensures ∙ c.if-is_clock.false)

pub returns : goal.returns
returns c = some_nowhere is_generator c.args.items.now c.loop-item.item-index (omega arith) c.loop-item.invariant
