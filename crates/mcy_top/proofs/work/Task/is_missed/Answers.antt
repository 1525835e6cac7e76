use Rattle.mcy_top.proofs.Common.{plan_fit}
use Rattle.mcy_top.proofs.work.Task.is_missed.Goals as goal

pub is_met-requires-clause-fit : goal.is_met-requires-clause-fit
is_met-requires-clause-fit c = plan_fit c.args.self.now.prepared.now c.requires.plan
