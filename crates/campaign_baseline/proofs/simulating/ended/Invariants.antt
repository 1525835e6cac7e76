use Rattle.campaign_baseline.proofs.Common.{◌≡◌, ◌≢◌, ◌-◌, ◌≤◌, false, max, phases_of, IsSameJob, GoesOn}
use Rattle.campaign_baseline.proofs.simulating.ended.Given as goal

abbrev pub invariant-cycles : goal.invariant-cycles
invariant-cycles l = record {
  going : l.job.is_over ≡ false;
  same : IsSameJob l.initial.job l.job;
  some : 1 ≤ l.cycle;
  few : l.cycle ≤ max l.initial.job.limit 1;
  at : max l.job.phases 1 ≡ phases_of (l.cycle - 1);
  before : l.cycle ≢ 1 → GoesOn l.initial.job.simulated (phases_of (l.cycle - 1));
}

-- how many phases are left up to the limit
abbrev pub decreases-cycles : goal.decreases-cycles
decreases-cycles l = phases_of l.job.limit - l.job.phases
