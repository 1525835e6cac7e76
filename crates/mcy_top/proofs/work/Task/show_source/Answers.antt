use Rattle.mcy_top.proofs.Common.{plan_fit}
use Rattle.mcy_top.proofs.work.Task.show_source.Goals as goal

pub source_text-requires-clause-fit : goal.source_text-requires-clause-fit
source_text-requires-clause-fit g c = plan_fit c.args.self.now.prepared.now c.requires.plan
