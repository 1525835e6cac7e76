-- What several files here take from the specs of this crate and from the crates below.
pub use Rattle.std.proofs.Common.{◌+◌, ◌-◌, ◌/◌, ◌<◌, ◌∙◌, ◌≡◌, ◌≢◌, ◌≤◌, ◌⊎◌, Err, IfOk, List, None, Ok, Option, Result, Some, ap, arith, false, get_or, inl, inr, length, map, refl, slice_get, subst}
pub use Rattle.std.proofs.Common.{sym, ℕ}
pub use Rattle.std.proofs.lemmas.Result.{IfOk-weaker, err_from_is_err_and}
pub use Rattle.std.specs.Prelude.{IsSomeAnd, MatchResult, max}
pub use Rattle.campaign_core.specs.Testers.{Asked, IsAskable, IsWordIn}
pub use Rattle.campaign_plan.proofs.Fitted.{plan_fits, plan_trials, test_at}
pub use Rattle.campaign_plan.proofs.Plans.{plan_count, plan_kind, plan_limits, plan_nets, plan_site}
pub use Rattle.campaign_plan.specs.Campaigns.{IsPlan}
pub use Rattle.campaign_plan.specs.declared.prepared.Prepared.{Prepared}
pub use Rattle.campaign_plan.specs.declared.trial.Trial.{Trial}
pub use Rattle.campaign_plan.specs.declared.trial.Trial.TheVariants.{Equality, Simulation}
pub use Rattle.campaign_run.specs.GivenUp.{HasAttempt, IsMutantAt}
pub use Rattle.campaign_run.specs.Limits.{IsTestable}
pub use Rattle.campaign_run.specs.Rows.{IsBroken, IsBrokenAt, IsGivenUpAt, IsRightWord, IsSaid, IsTrueWordAt}
pub use Rattle.campaign_run.specs.Simulated.{IsSimulated, told_verdict}
pub use Rattle.equiv_test.specs.Jobs.{IsGoing, IsNew, IsSameTest, Job as Comparing, lemmas_of}
pub use Rattle.equiv_test.specs.Verdicts.{Tells}
pub use Rattle.equiv_test.specs.declared.verdict.EqVerdict.{EqVerdict}
pub use Rattle.equiv_test.specs.declared.verdict.EqVerdict.TheVariants.{Change, NoChange, Unknown}
pub use Rattle.lrat_checker.specs.LegalLogs.{IsAttempt, Log}
pub use Rattle.mutation_sites.specs.Mutants.{HasEachRun, HasOneMore, HasSameNames, HasSameShapes, RunsAlike}
pub use Rattle.mutation_sites.specs.declared.site.Site.{Site}
pub use Rattle.netlist_core.specs.Checked.{IsSound, Plan, free_bits, net_bits}
pub use Rattle.netlist_core.specs.declared.raw.RawNetlist.{RawNetlist}
pub use Rattle.result_book.specs.Scripts.{word_code}
pub use Rattle.result_book.specs.declared.script.TestWord.TheVariants.{Fail, Pass, Unknown as Open}
pub use Rattle.step_trials.specs.EqualLaws.{MutantsAreNetlists}
pub use Rattle.tb_bench.specs.Runnable.{FitsDesign, IsRunnable}
pub use Rattle.tb_bench.specs.declared.parts.Parts.{Parts}
pub use Rattle.tb_machine.specs.Simulations.{phases_of}
pub use Rattle.tb_runner.specs.Jobs.{IsSameJob, Job as Simulating, new_job}
pub use Rattle.tb_runner.specs.Simulated.{Says, Simulated}
pub use Rattle.tb_turns.specs.Reached.{phases_after}
pub use Rattle.tb_turns.specs.declared.verdict.SimVerdict.{SimVerdict}
pub use Rattle.project_tester.specs.JobTurns.{CanGoOn, ComesTo, ComparesTo, GoesOn, IsToldBy, SimulatesTo}
pub use Rattle.project_tester.specs.ProjectJobs.{HasBegun, HasEnded, IsAttemptOf, IsComparing, IsSimulating, IsWorkOf, TellsAttempt, asked_in, asked_of, attempt_in, cycle_turns, lemma_turns, may_give}
pub use Rattle.project_tester.specs.ProjectJobs.{most_by, turns_in, word_in}
pub use Rattle.project_tester.specs.declared.job.Ended.{Ended}
pub use Rattle.project_tester.specs.declared.job.Work.{Work}
