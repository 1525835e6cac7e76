use Rattle.elab_expr.proofs.Common.{ap, ◌∙◌, fresh_bits}
use Rattle.elab_expr.proofs.NodeLemmas.{binary_shows}
use Rattle.elab_expr.proofs.nodes.binary_cell.Goals as goal

pub returns-clause-value : goal.returns-clause-value
returns-clause-value c = λ nets runs. binary_shows c.args.builder.now c.cell.new.self c.args.op c.args.kind c.args.left c.args.right c.args.a c.args.b c.in_ok-cell.field-0 c.args.span nets c.requires.kind c.requires.left.some c.requires.long_a c.requires.long_b c.requires.paired (c.in_ok-cell.ensures.y ∙ ap (fresh_bits c.args.builder.now.nets) c.binary_width.ensures) (rw (c.in_ok-ports.ensures, c.order_sign.ensures, c.binary_width.ensures) at c.in_ok-cell.ensures.adds) runs
