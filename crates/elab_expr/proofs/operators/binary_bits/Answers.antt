use Rattle.elab_expr.proofs.Common.{◌∙◌, sym}
use Rattle.elab_expr.proofs.Adding.{binary_adds, fresh_long}
use Rattle.elab_expr.proofs.Showing.{binary_shown}
use Rattle.elab_expr.proofs.operators.binary_bits.Goals as goal

pub extended_bits-requires-clause-wide : goal.extended_bits-requires-clause-wide
extended_bits-requires-clause-wide c = rw c.as_slice.ensures (fresh_long _ _ _ _ c.in_ok-y.ensures.y c.requires.wide)

pub returns-clause-adds : goal.returns-clause-adds
returns-clause-adds c = binary_adds c.args.builder.now c.binary_cell.new.builder c.args.op c.unwrap-kind.result c.args.left c.args.right c.args.a c.args.b c.in_ok-y.y c.in_ok-extended_bits.field-0 c.args.width c.args.span (sym c.binary_kind.ensures ∙ c.unwrap-kind.ensures) c.requires.left c.requires.right c.requires.paired c.requires.long_a c.requires.long_b c.requires.below_a c.requires.below_b c.requires.wide c.requires.narrow c.in_ok-y.ensures.y c.in_ok-y.ensures.adds c.in_ok-y.ensures.value c.in_ok-extended_bits.ensures.long (rw c.as_slice.ensures at c.in_ok-extended_bits.ensures.value) (rw c.as_slice.ensures at c.in_ok-extended_bits.ensures.below)

pub returns-clause-laid : goal.returns-clause-laid
returns-clause-laid c = binary_shown c.args.builder.now c.binary_cell.new.builder c.args.op c.unwrap-kind.result c.args.left c.args.a c.args.b c.in_ok-y.y c.in_ok-extended_bits.field-0 c.args.width c.args.span (sym c.binary_kind.ensures ∙ c.unwrap-kind.ensures) c.in_ok-y.ensures.y c.in_ok-y.ensures.adds (rw c.as_slice.ensures at c.in_ok-extended_bits.ensures.is)
