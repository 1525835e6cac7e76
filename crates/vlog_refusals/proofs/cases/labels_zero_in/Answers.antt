use Rattle.vlog_refusals.proofs.Common.{arith, names_of, DivideByZero, least_nil}
use Rattle.vlog_refusals.proofs.SizeLemmas.{labels_whole, labels_within_at}
use Rattle.vlog_refusals.proofs.cases.labels_zero_in.Goals as goal

pub loop-item-init : goal.loop-item-init
loop-item-init c = least_nil DivideByZero

pub all_zero_in-requires-clause-whole : goal.all_zero_in-requires-clause-whole
all_zero_in-requires-clause-whole c = rw c.as_slice.ensures (labels_whole (names_of c.args.scope.now) c.args.items.now c.loop-item.item-index c.item-item.result c.item-item.is (omega arith) c.requires.whole)

pub all_zero_in-requires-clause-within : goal.all_zero_in-requires-clause-within
all_zero_in-requires-clause-within c = rw c.as_slice.ensures (labels_within_at (names_of c.args.scope.now) c.args.size c.args.items.now c.loop-item.item-index c.item-item.result c.item-item.is (omega arith) c.requires.within)
