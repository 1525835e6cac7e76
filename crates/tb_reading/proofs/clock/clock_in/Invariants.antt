use Rattle.tb_reading.proofs.Common.{◌≡◌, drop, first_generator}
use Rattle.tb_reading.proofs.clock.clock_in.Given as goal

abbrev pub invariant-loop-item : goal.invariant-loop-item
invariant-loop-item l = first_generator (drop l.item-index l.items) ≡ first_generator l.items
