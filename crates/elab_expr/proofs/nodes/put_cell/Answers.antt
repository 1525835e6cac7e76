use Rattle.elab_expr.proofs.NodeLemmas.{put_shows}
use Rattle.elab_expr.proofs.nodes.put_cell.Goals as goal

pub returns-clause-value : goal.returns-clause-value
returns-clause-value c = λ nets runs. put_shows c.args.builder.now c.cell.new.self c.args.width c.args.a c.args.index c.args.bits c.in_ok-cell.field-0 c.args.span nets c.requires.long c.in_ok-cell.ensures.y (rw c.in_ok-ports.ensures at c.in_ok-cell.ensures.adds) runs
