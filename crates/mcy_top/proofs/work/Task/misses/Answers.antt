use Rattle.mcy_top.proofs.Common.{plan_fit}
use Rattle.mcy_top.proofs.work.Task.misses.Goals as goal

pub has_faults-requires-clause-fit : goal.has_faults-requires-clause-fit
has_faults-requires-clause-fit c = plan_fit c.args.self.now.prepared.now c.requires.plan
