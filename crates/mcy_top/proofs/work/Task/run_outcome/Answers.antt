use Rattle.mcy_top.proofs.Common.{◌∙◌, sym}
use Rattle.mcy_top.proofs.Counting.{outcome_none}
use Rattle.mcy_top.proofs.work.Task.run_outcome.Goals as goal

pub returns-in-0 : goal.returns-in-0
returns-in-0 c = c.run_done.ensures ∙ outcome_none c.args.self.now.prepared.now c.args.goal.now c.args.state.now.rows (sym c.wanting.ensures ∙ c.in-0.is)
