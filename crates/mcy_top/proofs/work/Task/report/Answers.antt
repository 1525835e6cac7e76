use Rattle.mcy_top.proofs.Common.{plan_fit}
use Rattle.mcy_top.proofs.work.Task.report.Goals as goal

pub status_text-requires-clause-fit : goal.status_text-requires-clause-fit
status_text-requires-clause-fit g c = plan_fit c.args.self.now.prepared.now c.requires.plan
