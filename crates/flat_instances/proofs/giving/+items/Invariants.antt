use Rattle.flat_instances.proofs.Common.{◌≡◌, ◌++◌, drop, map, all_names, item_names}
use Rattle.flat_instances.proofs.giving.+items.Given as goal

abbrev pub invariant-add_items-loop-item : goal.invariant-add_items-loop-item
invariant-add_items-loop-item l = l.names.items ++ all_names (map item_names (drop l.item-index l.items)) ≡ l.initial.names.items ++ all_names (map item_names l.items)
