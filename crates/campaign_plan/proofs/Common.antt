-- What several files here take from the specs of this crate and from the crates below.
pub use Rattle.std.proofs.Common.{[], ◌++◌, ◌+◌, ◌<◌, ◌∙◌, ◌∷◌, ◌≡◌, ◌≤◌, Bool, List, Ok, Result, Some, ap, arith, codes, false, get_or, inl, inr, length, map, refl, slice_get, subst, suc, sym, zero}
pub use Rattle.std.proofs.Common.{ℕ}
pub use Rattle.std.proofs.lemmas.List.{append_cancel_left, length-map}
pub use Rattle.campaign_choice.specs.Campaigns.{campaign_of, file_item, meta_of, names_of}
pub use Rattle.campaign_choice.specs.Projects.{HasScripts, design_part, kind_of, logic_read, report_read, test_kinds}
pub use Rattle.mcy_base.specs.declared.file.SourceFile.{SourceFile}
pub use Rattle.netlist_core.specs.declared.raw.RawNetlist.{RawNetlist}
pub use Rattle.project_benches.proofs.OneAnswer.{bench_without_fault, benches_alike, faults_are_one, netlist_cells, netlists_are_one, skips_once, tops_are_one}
pub use Rattle.project_file.specs.Projects.{IsProject}
pub use Rattle.project_file.specs.declared.project.Project.{Project}
pub use Rattle.project_file.specs.declared.project.TestKind.{TestKind}
pub use Rattle.project_file.specs.declared.project.TestKind.TheVariants.{Eq, Sim}
pub use Rattle.project_file.specs.declared.project.TestPlan.{TestPlan}
pub use Rattle.project_limits.specs.Files.{all_files}
pub use Rattle.result_book.specs.declared.campaign.Campaign.{Campaign}
pub use Rattle.campaign_plan.specs.Campaigns.{IsPlan, IsPrepared, LeavesOut}
pub use Rattle.campaign_plan.specs.Laws.{IsSame, SameTests, code_of}
pub use Rattle.campaign_plan.specs.Trials.{AreTrials, HasNoTrial, IsReading, IsTrial, IsTrialFault, Reading, numbers_in}
pub use Rattle.campaign_plan.specs.declared.prepared.Prepared.{Prepared}
pub use Rattle.campaign_plan.specs.declared.trial.Trial.{Trial}
pub use Rattle.campaign_plan.specs.declared.trial.Trial.TheVariants.{Equality, Simulation}
