use Rattle.elab_expr.proofs.Common.{◌∙◌, ap, length, length_fresh}
use Rattle.elab_expr.proofs.Adding.{ror_adds, bit_adds}
use Rattle.elab_expr.proofs.Showing.{ror_shown, bit_shown}
use Rattle.elab_expr.proofs.operators.condition_bits.Goals as goal

pub returns-in_ok-ror_cell-clause-adds : goal.returns-in_ok-ror_cell-clause-adds
returns-in_ok-ror_cell-clause-adds c = ror_adds c.args.builder.now c.ror_cell.new.builder c.args.a c.in_ok-ror_cell.field-0 c.args.width c.args.span c.if-width-gt1.true c.requires.narrow c.requires.long c.requires.below (ap length c.in_ok-ror_cell.ensures.y ∙ length_fresh c.args.builder.now.nets 1) c.in_ok-ror_cell.ensures.y c.in_ok-ror_cell.ensures.adds c.in_ok-ror_cell.ensures.value

pub returns-else-width-gt1-clause-adds : goal.returns-else-width-gt1-clause-adds
returns-else-width-gt1-clause-adds c = bit_adds c.args.builder.now c.args.a c.args.width c.args.span c.requires.some c.if-width-gt1.false c.requires.long c.requires.below

pub returns-in_ok-ror_cell-clause-laid : goal.returns-in_ok-ror_cell-clause-laid
returns-in_ok-ror_cell-clause-laid c = ror_shown c.args.builder.now c.ror_cell.new.builder c.args.a c.in_ok-ror_cell.field-0 c.args.width c.args.span c.if-width-gt1.true c.in_ok-ror_cell.ensures.y c.in_ok-ror_cell.ensures.adds

pub returns-else-width-gt1-clause-laid : goal.returns-else-width-gt1-clause-laid
returns-else-width-gt1-clause-laid c = bit_shown c.args.builder.now c.args.a c.args.width c.args.span c.if-width-gt1.false
