use Rattle.tb_choices.proofs.Common.{◌≡◌, take, flat_map, names_of, widened, choice_labels}
use Rattle.vlog_meaning.specs.Operators.{IsSized}
use Rattle.tb_choices.proofs.sizes.size_with_labels.Given as goal

abbrev pub invariant-loop-item : goal.invariant-loop-item
invariant-loop-item l = (l.common ≡ widened (names_of l.scope) l.fn.size (flat_map choice_labels (take l.item-index l.items))) × IsSized l.common
