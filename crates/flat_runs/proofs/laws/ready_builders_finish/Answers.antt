use Rattle.flat_runs.proofs.Ends.{ready_finishes}
use Rattle.flat_runs.proofs.laws.ready_builders_finish.Goals as goal

pub returns : goal.returns
returns c = ready_finishes
