use Rattle.campaign_baseline.proofs.Common.{◌≡◌, rules, IsTrue, All-more, Pass, Baseline}
use Rattle.campaign_baseline.proofs.told.all_pass.Goals as goal

pub loop-baseline-preserved : goal.loop-baseline-preserved
loop-baseline-preserved c k d less =
    let passes : IsTrue c.passes.result = search rules in
    All-more (λ (b : Baseline). b.verdict ≡ Pass) c.args.baselines.now c.loop-baseline.baseline-index _ c.loop-baseline-test.true c.loop-baseline.invariant (c.passes.ensures.0 passes) k d less
