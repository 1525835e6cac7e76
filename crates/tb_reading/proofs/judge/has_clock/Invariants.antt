use Rattle.tb_reading.proofs.Common.{◌≡◌, drop, is_generator, some_item}
use Rattle.tb_reading.proofs.judge.has_clock.Given as goal

abbrev pub invariant-loop-item : goal.invariant-loop-item
invariant-loop-item l = some_item is_generator (drop l.item-index l.items) ≡ some_item is_generator l.items
