use Rattle.case_arms.proofs.Common.{◌∙◌, ap, sym, add-one, arith, CaseItem, always, labels_in}
use Rattle.case_arms.proofs.Bounds.{labels_here, free_more, none_less}
use Rattle.case_arms.proofs.chosen.free_in.Goals as goal

pub returns-then-always-clause-free : goal.returns-then-always-clause-free
returns-then-always-clause-free c = λ s k w. (c.loop-place-test.true, ap (always s) (labels_here c.args.items.now c.loop-place.place c.index-items-place.result c.index-items-place.is (omega arith) ∙ ap labels_in c.index-items-place.is) ∙ sym ((rw c.as_slice.ensures at c.always.ensures) s k w) ∙ c.if-always.true, c.loop-place.invariant s k w)

pub loop-place-preserved : goal.loop-place-preserved
loop-place-preserved c = λ s k w. rw add-one (free_more s c.args.items.now c.loop-place.place c.index-items-place.result c.index-items-place.is (omega arith) (ap (λ (i : CaseItem). always s (labels_in i)) c.index-items-place.is ∙ sym ((rw c.as_slice.ensures at c.always.ensures) s k w) ∙ c.if-always.false) (c.loop-place.invariant s k w))

pub returns-clause-free : goal.returns-clause-free
returns-clause-free c = λ s k w. none_less s c.args.items.now c.loop-place.place c.args.before (omega arith) (c.loop-place.invariant s k w)
