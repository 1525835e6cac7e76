use Rattle.tb_reading.proofs.Common.{◌≡◌, drop, is_design, some_item}
use Rattle.tb_reading.proofs.judge.has_design.Given as goal

abbrev pub invariant-loop-item : goal.invariant-loop-item
invariant-loop-item l = some_item is_design (drop l.item-index l.items) ≡ some_item is_design l.items
