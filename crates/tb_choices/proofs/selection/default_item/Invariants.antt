use Rattle.tb_choices.proofs.Common.{◌≡◌, drop, map, choice_labels, default_item}
use Rattle.tb_choices.proofs.selection.default_item.Given as goal

abbrev pub invariant-loop-number : goal.invariant-loop-number
invariant-loop-number l = default_item l.number (map choice_labels (drop l.number l.items)) ≡ default_item 0 (map choice_labels l.items)
