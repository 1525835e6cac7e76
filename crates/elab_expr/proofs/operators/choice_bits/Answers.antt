use Rattle.elab_expr.proofs.Adding.{mux_adds}
use Rattle.elab_expr.proofs.Showing.{both_shown}
use Rattle.elab_expr.proofs.operators.choice_bits.Goals as goal

pub returns-clause-adds : goal.returns-clause-adds
returns-clause-adds c = mux_adds c.args.builder.now c.mux_cell.new.builder c.args.s c.args.no c.args.yes c.in_ok-mux_cell.field-0 c.args.width c.args.span c.requires.some c.requires.narrow c.requires.one c.requires.long_yes c.requires.long_no c.requires.below_s c.requires.below_yes c.requires.below_no c.in_ok-mux_cell.ensures.y c.in_ok-mux_cell.ensures.adds c.in_ok-mux_cell.ensures.value

pub returns-clause-laid : goal.returns-clause-laid
returns-clause-laid c = both_shown _ _ _ _ c.in_ok-mux_cell.ensures.adds c.in_ok-mux_cell.ensures.y
