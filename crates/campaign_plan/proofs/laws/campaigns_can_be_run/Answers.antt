use Rattle.campaign_plan.proofs.Fitted.{plan_fits, plan_trials}
use Rattle.campaign_plan.proofs.Plans.{plan_conflicts, plan_count, plan_fit, plan_items, plan_kind, plan_limits, plan_nets, plan_site}
use Rattle.campaign_plan.proofs.laws.campaigns_can_be_run.Goals as goal

pub returns-clause-fit : goal.returns-clause-fit
returns-clause-fit c d plan = (plan_fit d plan, plan_items d plan)

pub returns-clause-sites : goal.returns-clause-sites
returns-clause-sites c d plan = (plan_count d plan, (λ m site below. plan_site d m site plan below), (plan_nets d plan).0, (plan_nets d plan).1)

pub returns-clause-kinds : goal.returns-clause-kinds
returns-clause-kinds c d plan = (plan_trials d plan, λ t trial at. plan_kind d t trial plan at)

pub returns-clause-equalities : goal.returns-clause-equalities
returns-clause-equalities c d t plan at = ((plan_limits d t plan at).0, (plan_limits d t plan at).1, (plan_conflicts d plan).0, (plan_conflicts d plan).1)

pub returns-clause-benches : goal.returns-clause-benches
returns-clause-benches c = plan_fits
