use Rattle.mcy_top.proofs.Common.{plan_fit}
use Rattle.mcy_top.proofs.work.Task.falls_short.Goals as goal

pub are_finished-requires-clause-fit : goal.are_finished-requires-clause-fit
are_finished-requires-clause-fit c = plan_fit c.args.self.now.prepared.now c.requires.plan
