use Rattle.elab_expr.proofs.Common.{names_of, decl_shape, ◌∙◌, List, ap, Bit, widened}
use Rattle.elab_expr.proofs.Adding.{named_holds}
use Rattle.elab_expr.proofs.names.named.Goals as goal

pub returns-clause-holds : goal.returns-clause-holds
returns-clause-holds c = named_holds c.args.builder.now c.in_ok-bits.bits c.in_ok-extended_bits.field-0 (decl_shape (names_of c.args.scope.now c.args.name.now.name)) c.args.context (names_of c.args.scope.now c.args.name.now.name) c.in_ok-bits.ensures.long c.in_ok-bits.ensures.value c.in_ok-bits.ensures.below c.in_ok-extended_bits.ensures.long (rw c.as_slice.ensures at c.in_ok-extended_bits.ensures.value) (rw c.as_slice.ensures at c.in_ok-extended_bits.ensures.below)

pub returns-clause-is : goal.returns-clause-is
returns-clause-is c = (rw c.as_slice.ensures at c.in_ok-extended_bits.ensures.is) ∙ ap (λ (l : List Bit). widened l c.args.context.is_signed c.args.context.width) c.in_ok-bits.ensures.is
