use Rattle.campaign_baseline.proofs.Common.{ap, length, arith, plan_trials}
use Rattle.campaign_plan.proofs.Plans.{plan_fit}
use Rattle.campaign_baseline.proofs.simulating.baselines_under.Goals as goal

-- there are at most 16 tests
pub overflow_cast-test : goal.overflow_cast-test
overflow_cast-test c = omega (arith, (plan_fit c.args.prepared.now c.requires).few_tests, plan_trials c.args.prepared.now c.requires, ap length c.as_slice-test-end.ensures)
