use Rattle.elab_expr.proofs.Common.{◌∙◌, List, ap, arith, false, Bit, widened}
use Rattle.elab_expr.proofs.Adding.{zeros_above}
use Rattle.elab_expr.proofs.wiring.repeated_at.Goals as goal

pub returns-clause-value : goal.returns-clause-value
returns-clause-value c = λ nets. zeros_above nets c.in_ok-all.all c.in_ok-extended_bits.field-0 c.args.width (omega (arith, c.in_ok-all.ensures.long, c.requires.wide)) (rw c.as_slice.ensures at (c.in_ok-extended_bits.ensures.value nets)) ∙ c.in_ok-all.ensures.value nets

pub returns-clause-below : goal.returns-clause-below
returns-clause-below c = λ n h. (rw c.as_slice.ensures at (c.in_ok-extended_bits.ensures.below n)) (c.in_ok-all.ensures.below n h)

pub returns-clause-is : goal.returns-clause-is
returns-clause-is c = (rw c.as_slice.ensures at c.in_ok-extended_bits.ensures.is) ∙ ap (λ (l : List Bit). widened l false c.args.width) c.in_ok-all.ensures.is
