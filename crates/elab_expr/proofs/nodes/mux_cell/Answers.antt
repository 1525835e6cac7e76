use Rattle.elab_expr.proofs.NodeLemmas.{mux_shows}
use Rattle.elab_expr.proofs.nodes.mux_cell.Goals as goal

pub returns-clause-value : goal.returns-clause-value
returns-clause-value c = λ nets runs. mux_shows c.args.builder.now c.cell.new.self c.args.width c.args.s c.args.no c.args.yes c.in_ok-cell.field-0 c.args.span nets c.requires.long_no c.requires.long_yes c.in_ok-cell.ensures.y (rw c.in_ok-ports.ensures at c.in_ok-cell.ensures.adds) runs
