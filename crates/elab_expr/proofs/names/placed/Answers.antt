use Rattle.elab_expr.proofs.Common.{bound_integer, names_of, decl_low, ◌∙◌, ◌-ℤ◌, pos, ℕ, List, ap, false, Bit, bits_from, name_bits, widened}
use Rattle.elab_expr.proofs.Adding.{placed_holds}
use Rattle.elab_expr.proofs.names.placed.Goals as goal

pub returns-clause-holds : goal.returns-clause-holds
returns-clause-holds c = placed_holds c.args.builder.now c.in_ok-bits.bits c.in_ok-placed_bits.field-0 (bound_integer c.args.place) c.low_of-low.result c.args.size c.args.width (names_of c.args.scope.now c.args.name.now.name) (c.low_of-low.ensures ∙ ap (λ (n : List ℕ). decl_low (names_of c.args.scope.now n)) c.as_str.ensures) c.in_ok-bits.ensures.value c.in_ok-bits.ensures.below c.in_ok-placed_bits.ensures.long (rw c.as_slice.ensures at c.in_ok-placed_bits.ensures.value) (rw c.as_slice.ensures at c.in_ok-placed_bits.ensures.below)

pub returns-clause-is : goal.returns-clause-is
returns-clause-is c =
    (rw c.as_slice.ensures at c.in_ok-placed_bits.ensures.is)
    ∙ ap (λ (l : List Bit). widened (bits_from l (bound_integer c.args.place -ℤ pos c.low_of-low.result) c.args.size) false c.args.width) c.in_ok-bits.ensures.is
    ∙ ap (λ (k : ℕ). widened (bits_from (name_bits c.args.builder.now (names_of c.args.scope.now c.args.name.now.name)) (bound_integer c.args.place -ℤ pos k) c.args.size) false c.args.width) (c.low_of-low.ensures ∙ ap (λ (n : List ℕ). decl_low (names_of c.args.scope.now n)) c.as_str.ensures)
