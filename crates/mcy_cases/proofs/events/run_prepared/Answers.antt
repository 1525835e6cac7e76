use Rattle.std.proofs.Common.{◌∙◌, ap}
use Rattle.campaign_core.specs.Turns.{Turns}
use Rattle.campaign_plan.specs.declared.prepared.Prepared.{Prepared}
use Rattle.campaign_plan.proofs.Plans.{plan_fit}
use Rattle.mcy_cases.proofs.Driving.{core_kept}
use Rattle.mcy_cases.proofs.events.run_prepared.Goals as goal

pub new-requires : goal.new-requires
new-requires g c = plan_fit c.args.prepared.now c.requires.ready.plan

pub new-requires-3-clause-fit : goal.new-requires-3-clause-fit
new-requires-3-clause-fit g c = plan_fit c.args.prepared.now c.requires.ready.plan

pub drive-requires-clause-kept : goal.drive-requires-clause-kept
drive-requires-clause-kept g c tells =
    let new = c.in_ok-core.ensures.new in
    core_kept (g.K.Keeper.holds c.begin.new.keeper) (g.K.Keeper.leaves c.begin.new.keeper) c.args.prepared.now.campaign c.in_ok-core.core (ap (λ (s : Turns Prepared). s.campaign) new)
    (ap (λ (s : Turns Prepared). s.state.rows) new ∙ c.in_ok-state.ensures.rows_are) (c.in_ok-begin.ensures.kept tells)
