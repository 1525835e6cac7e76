use Rattle.elab_finish.proofs.Common.{List, refl, ◌∙◌, subst, Bit, IsOnly}
use Rattle.elab_finish.proofs.Orders.{filled_is}
use Rattle.elab_finish.proofs.ordering.filled.Goals as goal

pub returns-in_ok-copy_bits-in-Some-2 : goal.returns-in_ok-copy_bits-in-Some-2
returns-in_ok-copy_bits-in-Some-2 c = record {
  made = c.in-Some.register.now;
  only = subst (λ (bits : List Bit). IsOnly c.args.registers.now bits c.in-Some.register.now) c.as_slice.ensures c.in-Some.ensures;
  is = filled_is c.in_ok-copy-in-Some.field-0 c.args.slot.now.span c.in_ok-copy_bits-in-Some.field-0 c.in_ok-copy_bits-in-Some-2.field-0 c.args.slot.now.start c.args.slot.now c.in-Some.register.now (c.in_ok-copy-in-Some.ensures ∙ c.as_str.ensures) refl c.in_ok-copy_bits-in-Some.ensures c.in_ok-copy_bits-in-Some-2.ensures refl;
}
