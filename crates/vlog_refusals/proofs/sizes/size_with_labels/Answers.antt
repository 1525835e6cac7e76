use Rattle.vlog_refusals.proofs.Common.{arith, add-one, names_of, labels_in}
use Rattle.vlog_refusals.proofs.SizeLemmas.{labels_whole, labels_widened}
use Rattle.vlog_refusals.proofs.sizes.size_with_labels.Goals as goal

pub size_with-common-requires-clause-whole : goal.size_with-common-requires-clause-whole
size_with-common-requires-clause-whole c = rw c.as_slice.ensures (labels_whole (names_of c.args.scope.now) c.args.items.now c.loop-item.item-index c.item-item.result c.item-item.is (omega arith) c.requires.whole)

pub loop-item-preserved : goal.loop-item-preserved
loop-item-preserved c = (rw add-one (labels_widened labels_in (names_of c.args.scope.now) c.args.size c.loop-item.common c.size_with-common.result c.args.items.now c.loop-item.item-index c.item-item.result c.as_slice.result.now c.item-item.is (omega arith) c.loop-item.invariant.0 c.as_slice.ensures c.size_with-common.ensures.size), c.size_with-common.ensures.sized)
