use Rattle.campaign_baseline.proofs.Common.{take, AllPass}
use Rattle.campaign_baseline.proofs.told.all_pass.Given as goal

abbrev pub invariant-loop-baseline : goal.invariant-loop-baseline
invariant-loop-baseline l = AllPass (take l.baseline-index l.baselines)
