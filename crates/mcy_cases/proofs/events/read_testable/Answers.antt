use Rattle.std.proofs.Common.{subst, sym}
use Rattle.campaign_plan.specs.Campaigns.{IsPlan}
use Rattle.campaign_run.specs.Limits.{IsTestable}
use Rattle.campaign_baseline.proofs.Limiting.{testable_by}
use Rattle.mcy_cases.proofs.events.read_testable.Goals as goal

pub cycle_limit-requires : goal.cycle_limit-requires
cycle_limit-requires c = record { config = c.in-Ok.ensures.made.config; files = c.in-Ok.ensures.made.files; made = c.in-Ok.ensures.made.made }

pub returns-in-Some : goal.returns-in-Some
returns-in-Some c =
    let plan : IsPlan c.in-Ok.prepared = record { config = c.in-Ok.ensures.made.config; files = c.in-Ok.ensures.made.files; made = c.in-Ok.ensures.made.made } in
    subst IsTestable (sym c.with_cycles.ensures) (testable_by c.in-Ok.prepared c.in-Some.cycles plan (rw c.in-Some.is at c.in-Ok-cycle_limit.ensures))
