use Rattle.tb_reading.proofs.Common.{sym, ◌∙◌, arith, is_design}
use Rattle.tb_reading.proofs.Judging.{some_here, some_later, some_nowhere}
use Rattle.tb_reading.proofs.judge.has_design.Goals as goal

pub returns-then-is_design : goal.returns-then-is_design
returns-then-is_design c = some_here is_design c.args.items.now c.loop-item.item-index c.item-item.result (omega arith) c.item-item.is c.loop-item.invariant (sym c.is_design.ensures ∙ c.if-is_design.true)

pub loop-item-preserved : goal.loop-item-preserved
loop-item-preserved c = some_later is_design c.args.items.now c.loop-item.item-index c.item-item.result (omega arith) c.item-item.is c.loop-item.invariant (sym c.is_design.ensures ∙ c.if-is_design.false)

pub returns : goal.returns
returns c = some_nowhere is_design c.args.items.now c.loop-item.item-index (omega arith) c.loop-item.invariant
