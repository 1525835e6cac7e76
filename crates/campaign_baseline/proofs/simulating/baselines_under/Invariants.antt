use Rattle.campaign_baseline.proofs.Common.{AreBaselines}
use Rattle.campaign_baseline.proofs.simulating.baselines_under.Given as goal

abbrev pub invariant-loop-test : goal.invariant-loop-test
invariant-loop-test l = AreBaselines l.prepared l.limit l.test l.list.items
