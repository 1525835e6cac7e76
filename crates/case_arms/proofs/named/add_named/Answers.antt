use Rattle.case_arms.proofs.Common.{add-one, arith, names_of, each_whole, within_at}
use Rattle.case_arms.proofs.Values.{named_skip, named_more}
use Rattle.case_arms.proofs.named.add_named.Goals as goal

pub loop-label-preserved-then-not-is_value : goal.loop-label-preserved-then-not-is_value
loop-label-preserved-then-not-is_value c = λ s of v. rw add-one (named_skip s (names_of c.args.scope.now) c.args.kind c.args.size v c.args.labels.now c.loop-label.label-index c.label-item.result c.is_value.result _ _ c.label-item.is (omega arith) of c.is_value.ensures c.if-not-is_value.true (c.loop-label.invariant s of v))

pub value_at-requires-clause-whole : goal.value_at-requires-clause-whole
value_at-requires-clause-whole c = each_whole (names_of c.args.scope.now) c.args.labels.now c.loop-label.label-index c.label-item.result c.label-item.is (omega arith) c.requires.whole

pub value_at-requires-clause-within : goal.value_at-requires-clause-within
value_at-requires-clause-within c = within_at (names_of c.args.scope.now) c.args.size c.args.labels.now c.loop-label.label-index c.label-item.result c.label-item.is (omega arith) c.requires.within

pub loop-label-preserved : goal.loop-label-preserved
loop-label-preserved c = λ s of v. rw add-one (rw c.in_ok-push.ensures.items (named_more s (names_of c.args.scope.now) c.args.kind c.args.size v c.value_at.result c.loop-label.values.items c.args.labels.now c.loop-label.label-index c.label-item.result c.is_value.result _ c.label-item.is (omega arith) of c.is_value.ensures c.if-not-is_value.false c.value_at.ensures (c.loop-label.invariant s of v)))
