use Rattle.mcy_top.proofs.Common.{◌≡◌, wanting_from}
use Rattle.mcy_top.proofs.work.Task.wanting.Given as goal

abbrev pub invariant-loop-mutation : goal.invariant-loop-mutation
invariant-loop-mutation l = l.count ≡ wanting_from l.self.prepared.now l.goal l.state.rows 0 l.mutation
