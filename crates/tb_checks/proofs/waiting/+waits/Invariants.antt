use Rattle.tb_checks.proofs.Common.{◌≡◌, map, drop, any_of, waits, item_waits}
use Rattle.tb_checks.proofs.waiting.+waits.Given as goal

abbrev pub invariant-one_waits-loop-stmt : goal.invariant-one_waits-loop-stmt
invariant-one_waits-loop-stmt l = any_of (map waits (drop l.stmt-index l.body)) ≡ any_of (map waits l.body)

abbrev pub invariant-one_item_waits-loop-item : goal.invariant-one_item_waits-loop-item
invariant-one_item_waits-loop-item l = any_of (map item_waits (drop l.item-index l.items)) ≡ any_of (map item_waits l.items)
