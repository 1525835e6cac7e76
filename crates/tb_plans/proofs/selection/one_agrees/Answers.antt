use Rattle.tb_plans.proofs.Common.{map, Word, LabelFits}
use Rattle.tb_plans.proofs.Zips.{all_at}
use Rattle.tb_plans.proofs.selection.one_agrees.Goals as goal

pub value-bits-requires : goal.value-bits-requires
value-bits-requires c = all_at (LabelFits (map (λ (w : Word). w.width) c.args.store.now)) c.args.labels.now c.loop-label.label-index c.label-item.result c.label-item.is c.loop-label-test.true c.requires
