use Rattle.elab_proc.proofs.Common.{add-one, arith}
use Rattle.elab_proc.proofs.CaseLemmas.{always_hit, always_miss}
use Rattle.elab_proc.proofs.cases.always.Goals.{then-is_free, else-is_free}
use Rattle.elab_proc.proofs.cases.always.Goals as goal

pub loop-label-preserved : goal.loop-label-preserved
loop-label-preserved c = λ s k w. rw add-one (elim c.if-is_free.branch [ then-is_free v ↦ always_hit s c.args.kind c.args.width c.args.labels.now c.loop-label.label-index c.label-item.result c.if-is_free.found c.is_free.result c.label-item.is (omega arith) k w c.is_free.ensures v.if-is_free.true v.found-is | else-is_free v ↦ always_miss s c.args.kind c.args.width c.args.labels.now c.loop-label.label-index c.label-item.result c.if-is_free.found c.loop-label.found c.is_free.result c.label-item.is (omega arith) k w c.is_free.ensures v.if-is_free.false v.found-is (c.loop-label.invariant s k w) ])
