use Rattle.net_order.proofs.Common.{◌∙◌}
use Rattle.net_order.proofs.Stages.{at_place}
use Rattle.net_order.proofs.loops.row.Goals as goal

pub returns : goal.returns
returns c = c.as_slice.ensures.value ∙ at_place (λ v. v.items) c.args.reads.now c.args.node c.index-reads-node.result c.requires c.index-reads-node.is
