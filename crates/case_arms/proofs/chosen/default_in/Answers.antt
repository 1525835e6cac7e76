use Rattle.case_arms.proofs.Common.{◌∙◌, [], ap, sym, add-one, false, Some, InNames, default_here, default_labelled}
use Rattle.case_arms.proofs.Bounds.{body_here}
use Rattle.case_arms.proofs.chosen.default_in.Goals as goal

pub returns-then-is_default-clause-body : goal.returns-then-is_default-clause-body
returns-then-is_default-clause-body c =
    ap (λ (f : InNames). Some f) (body_here c.args.items.now c.loop-place.place c.index-items-place.result c.index-items-place.is c.loop-place-test.true) ∙
    sym (c.loop-place.invariant ∙ default_here false [] c.args.items.now c.loop-place.place c.index-items-place.result c.index-items-place.is c.loop-place-test.true (sym c.is_default.ensures ∙ c.if-is_default.true))

pub loop-place-preserved : goal.loop-place-preserved
loop-place-preserved c = rw add-one (c.loop-place.invariant ∙ default_labelled false [] c.args.items.now c.loop-place.place c.index-items-place.result c.index-items-place.is c.loop-place-test.true (sym c.is_default.ensures ∙ c.if-is_default.false))
