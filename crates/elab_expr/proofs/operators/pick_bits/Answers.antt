use Rattle.elab_expr.proofs.Adding.{pick_adds, fresh_long}
use Rattle.elab_expr.proofs.Showing.{wide_shown}
use Rattle.elab_expr.proofs.operators.pick_bits.Goals as goal

pub extended_bits-requires-clause-wide : goal.extended_bits-requires-clause-wide
extended_bits-requires-clause-wide c = rw c.as_slice.ensures (fresh_long _ _ _ _ c.in_ok-y.ensures.y c.requires.wide)

pub returns-clause-adds : goal.returns-clause-adds
returns-clause-adds c = pick_adds c.args.builder.now c.pick_cell.new.builder c.args.a c.args.index c.in_ok-y.y c.in_ok-extended_bits.field-0 c.args.size c.args.width c.args.span c.requires.some_a c.requires.narrow_a c.requires.some_index c.requires.narrow_index c.requires.below_a c.requires.below c.requires.some c.requires.wide c.requires.narrow c.in_ok-y.ensures.y c.in_ok-y.ensures.adds c.in_ok-y.ensures.value c.in_ok-extended_bits.ensures.long (rw c.as_slice.ensures at c.in_ok-extended_bits.ensures.value) (rw c.as_slice.ensures at c.in_ok-extended_bits.ensures.below)

pub returns-clause-laid : goal.returns-clause-laid
returns-clause-laid c = wide_shown _ _ _ _ _ c.args.width c.in_ok-y.ensures.adds c.in_ok-y.ensures.y (rw c.as_slice.ensures at c.in_ok-extended_bits.ensures.is)
