use Rattle.campaign_baseline.proofs.Common.{◌∙◌, sym, subst, false≢true, AllPass}
use Rattle.campaign_baseline.proofs.Limiting.{fails_by, limit_by, limit_plainly}
use Rattle.campaign_baseline.proofs.limit.cycle_limit.Goals as goal

pub returns-then-not-asks_baselines : goal.returns-then-not-asks_baselines
returns-then-not-asks_baselines c = limit_plainly c.args.prepared.now (λ asks. false≢true (sym c.if-not-asks_baselines.true ∙ c.asks_baselines.ensures.1 asks))

pub returns-then-all_pass : goal.returns-then-all_pass
returns-then-all_pass c = limit_by c.args.prepared.now c.in_ok-list.list.items c.cycles_by.result c.deref-then-all_pass.result.now c.deref-then-all_pass.ensures.value c.cycles_by.ensures c.in_ok-list.ensures (subst AllPass c.deref.ensures.value (c.all_pass.ensures.0 c.if-all_pass.true))

pub returns : goal.returns
returns c =
    fails_by c.args.prepared.now c.in_ok-list.list.items (c.asks_baselines.ensures.0 c.if-not-asks_baselines.false) c.in_ok-list.ensures
    (λ all. false≢true (sym c.if-all_pass.false ∙ c.all_pass.ensures.1 (subst AllPass (sym c.deref.ensures.value) all)))
