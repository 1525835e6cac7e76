use Rattle.mcy_top.proofs.Common.{plan_fit}
use Rattle.mcy_top.proofs.work.Task.list.Goals as goal

pub list_text-requires-clause-fit : goal.list_text-requires-clause-fit
list_text-requires-clause-fit g c = plan_fit c.args.self.now.prepared.now c.requires.plan
