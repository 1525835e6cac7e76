use Rattle.elab_expr.proofs.Common.{ap, ◌∙◌, fresh_bits}
use Rattle.elab_expr.proofs.NodeLemmas.{unary_shows}
use Rattle.elab_expr.proofs.nodes.unary_cell.Goals as goal

pub returns-clause-value : goal.returns-clause-value
returns-clause-value c = λ nets runs. unary_shows c.args.builder.now c.cell.new.self c.args.op c.args.kind c.args.at c.args.a c.in_ok-cell.field-0 c.args.span nets c.requires.kind c.requires.long (c.in_ok-cell.ensures.y ∙ ap (fresh_bits c.args.builder.now.nets) c.unary_width.ensures) (rw (c.in_ok-ports.ensures, c.unary_width.ensures) at c.in_ok-cell.ensures.adds) runs
