use Rattle.campaign_baseline.proofs.Common.{◌≡◌, take}
use Rattle.campaign_run.specs.Baselines as specs
use Rattle.campaign_baseline.proofs.auto.greatest.Given as goal

abbrev pub invariant-loop-baseline : goal.invariant-loop-baseline
invariant-loop-baseline l = l.greatest ≡ specs.greatest (take l.baseline-index l.baselines)
