-- What several files here take from the specs of this crate and from the crates below.
pub use Rattle.std.proofs.Common.{[], ◌++◌, ◌+◌, ◌-◌, ◌<◌, ◌∙◌, ◌∷◌, ◌≡◌, ◌≢◌, ◌≤◌, ◌⊎◌, Bool, List, None, Option, Some, add-one, ap, arith, drop, false, if◌then◌else◌, inl, inr, length, map, refl}
pub use Rattle.std.proofs.Common.{rules, slice_get, subst, suc, sym, take, true, zero, ℕ}
pub use Rattle.std.proofs.lemmas.Bool.{cases_Bool, cases_order, false≢true}
pub use Rattle.std.proofs.lemmas.List.{append-nil, map-append}
pub use Rattle.std.proofs.lemmas.List.Elements.{All-head, All-more, All-push, All-tail, All-weaker}
pub use Rattle.std.specs.Prelude.{IsTrue, max, string_bytes}
pub use Rattle.campaign_plan.proofs.Fitted.{plan_fits, plan_trials, test_at}
pub use Rattle.campaign_plan.proofs.OneCampaign.{plan_once}
pub use Rattle.campaign_plan.specs.Campaigns.{IsPlan}
pub use Rattle.campaign_plan.specs.Laws.{AreAlike, IsSame, SameTests}
pub use Rattle.campaign_plan.specs.declared.prepared.Prepared.{Prepared}
pub use Rattle.campaign_plan.specs.declared.trial.Trial.{Trial}
pub use Rattle.campaign_plan.specs.declared.trial.Trial.TheVariants.{Equality, Simulation}
pub use Rattle.campaign_run.specs.Baselines.{AllPass, AreBaselines, EndsIn, IsBaseline, auto_cycles, design_run, sim_at, sims_below}
pub use Rattle.campaign_run.specs.declared.baseline.Baseline.{Baseline}
pub use Rattle.tb_bench.specs.Runnable.{FitsDesign, IsRunnable}
pub use Rattle.tb_bench.specs.declared.parts.Parts.{Parts}
pub use Rattle.tb_machine.specs.Simulations.{Outcome, Reaches, phases_of}
pub use Rattle.tb_runner.specs.Jobs.{IsSameJob, Job, new_job}
pub use Rattle.tb_runner.specs.Simulated.{Ends, GoesOn, Says, Simulated}
pub use Rattle.tb_turns.specs.declared.verdict.SimVerdict.{SimVerdict}
pub use Rattle.tb_turns.specs.declared.verdict.SimVerdict.TheVariants.{Fail, Hang, Pass}
pub use Rattle.campaign_baseline.specs.Laws.{BaselinesAreOne}
