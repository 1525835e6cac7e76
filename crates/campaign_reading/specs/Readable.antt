-- What files make a campaign.
use Rattle.std.specs.Prelude.{◌≡◌, List, Option, Some}
use Rattle.mcy_base.specs.declared.file.SourceFile.{SourceFile}
use Rattle.mcy_outside.specs.Files.{Held}
use Rattle.netlist_core.specs.declared.raw.RawNetlist.{RawNetlist}
use Rattle.project_file.specs.declared.project.Project.{Project}
use Rattle.campaign_plan.specs.declared.trial.Trial.{Trial}
use Rattle.campaign_choice.specs.Limits.{IsWithinLimits}
use Rattle.campaign_plan.specs.Trials.{AreTrials, IsReading, Reading}
use Rattle.campaign_choice.specs.Campaigns.{names_of}
use Rattle.campaign_reading.specs.Reads.{GotSources, HasDesign, HasSites}

-- the files tell what they hold, and it is a project with a design that is accepted
pub record IsReadable (held : Option Held) : Type 0 where
  pub map : Held
  pub told : held ≡ Some map
  pub project : Project
  pub files : List SourceFile
  pub got : GotSources (Some map) project files
  pub netlist : RawNetlist
  pub design : HasDesign project files netlist
  pub few : IsWithinLimits project netlist
  pub sites : HasSites project files netlist
  pub reading : Reading
  pub is_reading : IsReading files (names_of files) project.top netlist reading
  pub trials : List Trial
  pub benches : AreTrials reading project.tests trials
