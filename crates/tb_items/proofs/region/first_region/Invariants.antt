use Rattle.tb_items.proofs.Common.{◌≡◌, drop, first_region}
use Rattle.tb_items.proofs.region.first_region.Given as goal

abbrev pub invariant-loop-item : goal.invariant-loop-item
invariant-loop-item l = first_region (drop l.item-index l.items) ≡ first_region l.items
