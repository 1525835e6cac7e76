-- What several files here take from the specs of this crate and from the crates below.
pub use Rattle.std.proofs.Common.{[], ◌++◌, ◌+◌, ◌<◌, ◌∙◌, ◌∷◌, ◌≡◌, ◌≢◌, ◌≤◌, ◌⊎◌, Bool, Err, List, None, Ok, Option, Result, Some, add-one, ap, append_assoc, arith, drop, drop-cons, false, get_or}
pub use Rattle.std.proofs.Common.{if◌then◌else◌, inl, inr, length, length-take-le, map, refl, subst, suc, sym, take, take-append-drop, take-suc, true, true≢false, zero, ℕ}
pub use Rattle.std.proofs.lemmas.List.Elements.{All-cons, All-head, All-nil, All-tail}
pub use Rattle.std.proofs.lemmas.Result.{IfOk-weaker, err_from_is_err_and}
pub use Rattle.std.specs.List.{All}
pub use Rattle.std.specs.Str.{IsUtf8, bytes_eq}
pub use Rattle.campaign_choice.specs.Campaigns.{campaign_of, names_of}
pub use Rattle.campaign_choice.specs.Limits.{IsExcess, IsWithinLimits, max_bytes}
pub use Rattle.campaign_choice.specs.Omitted.{lacks_sites, omitted_sites}
pub use Rattle.campaign_choice.specs.Projects.{HasScripts, IsScripted, design_part, logic_read, report_read}
pub use Rattle.campaign_plan.specs.Campaigns.{IsPrepared, LeavesOut}
pub use Rattle.campaign_plan.specs.Trials.{AreTrials, HasNoTrial, HasNoTrialFor, HasNoTrials, IsReading, IsTrial, IsTrialFault, Reading, numbers_from, numbers_in, reading_of}
pub use Rattle.campaign_plan.specs.declared.prepared.Prepared.{Prepared}
pub use Rattle.campaign_plan.specs.declared.trial.Trial.{Trial}
pub use Rattle.mcy_base.specs.declared.file.SourceFile.{SourceFile}
pub use Rattle.mcy_outside.specs.Files.{Gives, Held, IsLarge}
pub use Rattle.netlist_core.specs.declared.raw.RawNetlist.{RawNetlist}
pub use Rattle.project_file.specs.Projects.{IsCut, IsFault, IsProject, design_files}
pub use Rattle.project_file.specs.declared.project.Project.{Project}
pub use Rattle.project_limits.specs.Files.{all_files}
pub use Rattle.project_sources.specs.Netlists.{HasNetlist, HasNoModules}
pub use Rattle.source_faults.specs.Faults.{no_sites, too_many}
pub use Rattle.source_faults.specs.declared.fault.SourceError.{SourceError}
pub use Rattle.source_trees.specs.Files.{AreGiven, AreModules, AreRead, max_tokens}
pub use Rattle.vlog_syntax.specs.declared.module.Module.{Module}
pub use Rattle.campaign_reading.specs.Files.{Exceeds, Got, GotAll, IsMade, Lacks, config_name}
pub use Rattle.campaign_reading.specs.Reads.{AtProject, AtSources, GotSources, HasDesign, HasNoBenches, HasNoDesign, HasNoSites, HasProject, HasSites, IsNext, IsRead, IsRefusedAsLarge}
pub use Rattle.campaign_reading.specs.Reads.{IsRefusedWithoutSites, IsSourceBad, IsTooLarge, IsUnbenched, IsUnmade, IsUnprepared, IsUnscripted, IsUntaken, IsUntakenDesign, LacksSites, refused_as}
pub use Rattle.campaign_reading.specs.declared.preparing.PrepareError.{PrepareError}
pub use Rattle.campaign_reading.specs.declared.preparing.PrepareError.TheVariants.{Memory as ShortOfMemory, Source as Unprepared}
pub use Rattle.campaign_reading.specs.declared.refusal.Refusal.{Refusal}
