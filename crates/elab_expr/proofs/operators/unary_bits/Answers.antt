use Rattle.elab_expr.proofs.Common.{sym}
use Rattle.elab_expr.proofs.Adding.{unary_adds, plus_adds, fresh_long}
use Rattle.elab_expr.proofs.Showing.{unary_shown, plus_shown}
use Rattle.elab_expr.proofs.operators.unary_bits.Goals as goal

pub extended_bits-requires-clause-wide : goal.extended_bits-requires-clause-wide
extended_bits-requires-clause-wide c = rw c.as_slice.ensures (fresh_long _ _ _ _ c.in_ok-y-in-Some.ensures.y c.requires.wide)

pub returns-in_ok-extended_bits-in-Some-clause-adds : goal.returns-in_ok-extended_bits-in-Some-clause-adds
returns-in_ok-extended_bits-in-Some-clause-adds c = unary_adds c.args.builder.now c.unary_cell.new.builder c.args.op c.in-Some.kind c.args.at c.args.a c.in_ok-y-in-Some.y c.in_ok-extended_bits-in-Some.field-0 c.args.width c.args.span (sym c.in-Some.ensures) c.requires.at c.requires.long c.requires.below c.requires.wide c.requires.narrow c.in_ok-y-in-Some.ensures.y c.in_ok-y-in-Some.ensures.adds c.in_ok-y-in-Some.ensures.value c.in_ok-extended_bits-in-Some.ensures.long (rw c.as_slice.ensures at c.in_ok-extended_bits-in-Some.ensures.value) (rw c.as_slice.ensures at c.in_ok-extended_bits-in-Some.ensures.below)

pub returns-in_ok-extended_bits-in-None-clause-adds : goal.returns-in_ok-extended_bits-in-None-clause-adds
returns-in_ok-extended_bits-in-None-clause-adds c = plus_adds c.args.builder.now c.args.op c.args.at c.args.a c.in_ok-extended_bits-in-None.field-0 c.args.width c.args.span (sym c.in-None.ensures) c.requires.long c.requires.below c.requires.wide c.in_ok-extended_bits-in-None.ensures.long (rw c.as_slice-in-None.ensures at c.in_ok-extended_bits-in-None.ensures.value) (rw c.as_slice-in-None.ensures at c.in_ok-extended_bits-in-None.ensures.below)

pub returns-in_ok-extended_bits-in-Some-clause-laid : goal.returns-in_ok-extended_bits-in-Some-clause-laid
returns-in_ok-extended_bits-in-Some-clause-laid c = unary_shown c.args.builder.now c.unary_cell.new.builder c.args.op c.in-Some.kind c.args.at c.args.a c.in_ok-y-in-Some.y c.in_ok-extended_bits-in-Some.field-0 c.args.width c.args.span (sym c.in-Some.ensures) c.in_ok-y-in-Some.ensures.y c.in_ok-y-in-Some.ensures.adds (rw c.as_slice.ensures at c.in_ok-extended_bits-in-Some.ensures.is)

pub returns-in_ok-extended_bits-in-None-clause-laid : goal.returns-in_ok-extended_bits-in-None-clause-laid
returns-in_ok-extended_bits-in-None-clause-laid c = plus_shown c.args.builder.now c.args.op c.args.at c.args.a c.in_ok-extended_bits-in-None.field-0 c.args.width c.args.span (sym c.in-None.ensures) (rw c.as_slice-in-None.ensures at c.in_ok-extended_bits-in-None.ensures.is)
