use Rattle.case_arms.proofs.Common.{Bool, ap, ◌∙◌, ◌&&◌, add-one, has}
use Rattle.case_arms.proofs.named.has_each.Goals as goal

pub loop-number-preserved : goal.loop-number-preserved
loop-number-preserved c = rw add-one (c.both-found.ensures ∙ ap (λ (b : Bool). b && c.loop-number.found) (c.has.ensures ∙ ap (has c.args.values.now) c.from-in-loop-number.ensures) ∙ ap (λ (b : Bool). has c.args.values.now c.loop-number.number && b) c.loop-number.invariant)
