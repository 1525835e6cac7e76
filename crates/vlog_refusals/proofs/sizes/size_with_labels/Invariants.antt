use Rattle.vlog_refusals.proofs.Common.{◌≡◌, take, flat_map, IsSized, names_of, labels_in, widened}
use Rattle.vlog_refusals.proofs.sizes.size_with_labels.Given as goal

abbrev pub invariant-loop-item : goal.invariant-loop-item
invariant-loop-item l = (l.common ≡ widened (names_of l.scope) l.fn.size (flat_map labels_in (take l.item-index l.items))) × IsSized l.common
