use Rattle.elab_expr.proofs.NodeLemmas.{ror_shows}
use Rattle.elab_expr.proofs.nodes.ror_cell.Goals as goal

pub returns-clause-value : goal.returns-clause-value
returns-clause-value c = λ nets runs. ror_shows c.args.builder.now c.cell.new.self c.args.a c.in_ok-cell.field-0 c.args.span nets c.in_ok-cell.ensures.y (rw c.in_ok-ports.ensures at c.in_ok-cell.ensures.adds) runs
