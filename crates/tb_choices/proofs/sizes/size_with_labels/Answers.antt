use Rattle.tb_choices.proofs.Common.{arith, add-one, names_of, all_whole, labels_widened, choice_labels}
use Rattle.tb_choices.proofs.Labels.{labels_whole_at}
use Rattle.tb_choices.proofs.sizes.size_with_labels.Goals as goal

pub size_with-common-requires-clause-whole : goal.size_with-common-requires-clause-whole
size_with-common-requires-clause-whole c = all_whole (names_of c.args.scope.now) c.as_slice.result.now (labels_whole_at (names_of c.args.scope.now) c.args.items.now c.loop-item.item-index c.item-item.result c.as_slice.result.now c.item-item.is (omega arith) c.as_slice.ensures c.requires.whole)

pub loop-item-preserved : goal.loop-item-preserved
loop-item-preserved c = (rw add-one (labels_widened choice_labels (names_of c.args.scope.now) c.args.size c.loop-item.common c.size_with-common.result c.args.items.now c.loop-item.item-index c.item-item.result c.as_slice.result.now c.item-item.is (omega arith) c.loop-item.invariant.0 c.as_slice.ensures c.size_with-common.ensures.size), c.size_with-common.ensures.sized)
