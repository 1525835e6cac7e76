-- The campaign of a project and its sources, with what it is run on.
use Rattle.std.specs.Prelude.{◌≡◌, ℕ, Bool, false, List, length}
use Rattle.std.specs.List.{All}
use Rattle.mcy_base.specs.declared.file.SourceFile.{SourceFile}
use Rattle.project_file.specs.declared.project.Project.{Project}
use Rattle.project_file.specs.Projects.{IsProject}
use Rattle.tag_script.specs.declared.script.Script.{Script}
use Rattle.report_script.specs.declared.report.Report.{Report}
use Rattle.campaign_plan.specs.declared.prepared.Prepared.{Prepared}
use Rattle.campaign_choice.specs.Limits.{IsWithinLimits}
use Rattle.project_limits.specs.Files.{all_files}
use Rattle.campaign_choice.specs.Projects.{design_part, HasScripts}
use Rattle.project_benches.specs.Netlists.{HasNetlist}
use Rattle.project_benches.specs.Skipped.{SkipsCells}
use Rattle.netlist_core.specs.declared.raw.RawNetlist.{RawNetlist}
use Rattle.mutation_sites.specs.Mutants.{IsSite}
use Rattle.campaign_choice.specs.Campaigns.{campaign_of, names_of}
use Rattle.campaign_choice.specs.Mutations.{all_sites, picked_sites}
use Rattle.campaign_choice.specs.Omitted.{lacks_sites, omitted_sites}
use Rattle.campaign_plan.specs.Trials.{AreTrials, IsReading, Reading}

-- for each site of the netlist of these files, whether the project leaves it out
pub record LeavesOut (project : Project) (files : List SourceFile) (netlist : RawNetlist) (omitted : List Bool) : Type 0 where
  pub skipped : List Bool
  pub skips : SkipsCells (design_part project files) project.top project.skip skipped
  pub are : omitted ≡ omitted_sites project skipped netlist

-- a campaign, with its sources and their netlist, its tests as they are run, how many sites the netlist has, and those of the
-- mutations, which are bits of it
pub record IsPrepared (config : List ℕ) (files : List SourceFile) (c : Prepared) : Type 0 where
  pub project : Project
  pub says : IsProject config project
  pub script : Script
  pub report : Report
  pub scripts : HasScripts project script report
  pub names : names_of files ≡ all_files project
  pub design : HasNetlist (design_part project files) project.top c.netlist
  pub few : IsWithinLimits project c.netlist
  pub omitted : List Bool
  pub left_out : LeavesOut project files c.netlist omitted
  pub some : lacks_sites omitted ≡ false
  pub reading : Reading
  pub is_reading : IsReading files (names_of files) project.top c.netlist reading
  pub trials : AreTrials reading project.tests c.trials
  -- where they are to follow from the benches, that is asked of a campaign that is run (`HasItsLimit`)
  pub cycles : c.auto_cycles ≡ false → c.cycles ≡ project.cycles
  pub seed : c.word_seed ≡ project.word_seed
  pub campaign : c.campaign ≡ campaign_of config project script report files c.netlist c.sites
  pub count : c.site_count ≡ length (all_sites project c.netlist)
  pub places : c.sites ≡ picked_sites project omitted c.netlist
  pub placed : All (IsSite c.netlist) c.sites
  pub sources : c.files ≡ design_part project files
  pub requirement : c.requirement ≡ project.requirement
  pub baseline : c.baseline ≡ project.baseline
  pub auto : c.auto_cycles ≡ project.auto_cycles

-- that of some project and sources
pub record IsPlan (c : Prepared) : Type 0 where
  pub config : List ℕ
  pub files : List SourceFile
  pub made : IsPrepared config files c
