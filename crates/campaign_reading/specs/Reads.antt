-- What is read, in its order, and why the files make no campaign.
use Rattle.std.specs.Prelude.{◌≡◌, ◌⊎◌, ℕ, Bool, true, false, List, [], ◌∷◌, map, ⊤, Option}
use Rattle.mcy_base.specs.declared.file.SourceFile.{SourceFile}
use Rattle.mcy_base.specs.declared.kind.Kind.{Kind}
use Rattle.mcy_base.specs.Causes.{Rose}
use Rattle.mcy_outside.specs.Files.{Held}
use Rattle.project_file.specs.declared.project.Project.{Project}
use Rattle.project_file.specs.Projects.{IsFault, IsProject}
use Rattle.netlist_core.specs.declared.raw.RawNetlist.{RawNetlist}
use Rattle.source_faults.specs.declared.fault.SourceError.{SourceError}
use Rattle.source_faults.specs.Faults.{no_sites, too_many}
use Rattle.project_sources.specs.Netlists.{HasNetlist, HasNoModules, HasNoNetlist}
use Rattle.vlog_syntax.specs.declared.module.Module.{Module}
use Rattle.source_trees.specs.Files.{AreRead}
use Rattle.project_sources.specs.declared.netlist.NetlistError.{NetlistError}
use Rattle.project_sources.specs.declared.netlist.NetlistError.TheVariants.{Source, Memory as NoMemory}
use Rattle.campaign_reading.specs.declared.refusal.Refusal.{Refusal}
use Rattle.campaign_reading.specs.declared.preparing.PrepareError.{PrepareError}
use Rattle.campaign_reading.specs.declared.preparing.PrepareError.TheVariants.{Source as Unprepared, Memory as ShortOfMemory}
use Rattle.campaign_reading.specs.declared.refusal.Refusal.TheVariants.{ProjectBad, ScriptBad, SourceBad, Missing, TooLarge, ReadFault, Memory}
use Rattle.project_limits.specs.Files.{all_files}
use Rattle.campaign_choice.specs.Projects.{design_part, IsScripted, IsScriptFault}
use Rattle.campaign_choice.specs.Limits.{IsExcess, IsWithinLimits}
use Rattle.campaign_choice.specs.Omitted.{lacks_sites}
use Rattle.campaign_plan.specs.Campaigns.{LeavesOut}
use Rattle.campaign_plan.specs.Trials.{IsReading, IsTrialFault, Reading}
use Rattle.campaign_choice.specs.Campaigns.{names_of}
use Rattle.campaign_reading.specs.Files.{config_name, Got, GotAll, Lacks, Exceeds}

-- why a project has no scripts
abbrev pub IsUnscripted : Project → Refusal → Type 0
IsUnscripted project (ScriptBad error) = IsScriptFault project error
IsUnscripted project Memory = ⊤
IsUnscripted project refusal = ⊥

-- why bytes are no project with scripts
abbrev pub IsUntaken : List ℕ → Refusal → Type 0
IsUntaken config (ProjectBad error) = IsFault config error
IsUntaken config (ScriptBad error) = (project : Project) × IsProject config project × IsUnscripted project (ScriptBad error)
IsUntaken config Memory = ⊤
IsUntaken config refusal = ⊥

-- the project file has this project, which has its scripts
pub record HasProject (held : Option Held) (project : Project) : Type 0 where
  pub config : List ℕ
  pub got : Got held config_name config
  pub says : IsProject config project
  pub scripted : IsScripted project

-- it is one of these files, and those before it are there
abbrev pub IsNext : Option Held → List (List ℕ) → List ℕ → Type 0
IsNext held [] name = ⊥
IsNext held (first ∷ more) name = (name ≡ first) ⊎ (((bytes : List ℕ) × Got held first bytes) × IsNext held more name)

-- the file of this name is read: the project file first, and then the files of the design and of the tests in their order
abbrev pub IsRead : Option Held → List ℕ → Type 0
IsRead held name = (name ≡ config_name) ⊎ ((project : Project) × HasProject held project × IsNext held (all_files project) name)

-- all files of the project are read, and are these
pub record GotSources (held : Option Held) (project : Project) (files : List SourceFile) : Type 0 where
  pub before : HasProject held project
  pub names : map (λ file. file.name) files ≡ all_files project
  pub got : GotAll held files

-- the netlist is too large
abbrev pub IsTooLarge : Project → RawNetlist → SourceError → Type 0
IsTooLarge project netlist error = (kind : Kind) × IsExcess project netlist kind × (error ≡ too_many kind)

-- the files are modules, and those of the design have this netlist
pub record HasDesign (project : Project) (files : List SourceFile) (netlist : RawNetlist) : Type 0 where
  pub modules : List Module
  pub read : AreRead files modules
  pub design : HasNetlist (design_part project files) project.top netlist

-- all files are modules, and those of the design have no netlist
pub record HasNoDesign (project : Project) (files : List SourceFile) (error : SourceError) : Type 0 where
  pub modules : List Module
  pub read : AreRead files modules
  pub refused : HasNoNetlist (design_part project files) project.top error

-- sites of the netlist are left, or it has none
pub record HasSites (project : Project) (files : List SourceFile) (netlist : RawNetlist) : Type 0 where
  pub omitted : List Bool
  pub left_out : LeavesOut project files netlist omitted
  pub some : lacks_sites omitted ≡ false

-- the project leaves out all sites of the netlist
pub record LacksSites (project : Project) (files : List SourceFile) (netlist : RawNetlist) (error : SourceError) : Type 0 where
  pub omitted : List Bool
  pub left_out : LeavesOut project files netlist omitted
  pub none : lacks_sites omitted ≡ true
  pub is : error ≡ no_sites

-- the project leaves out all sites of the design, which is not too large
pub record HasNoSites (project : Project) (files : List SourceFile) (error : SourceError) : Type 0 where
  pub netlist : RawNetlist
  pub design : HasDesign project files netlist
  pub few : IsWithinLimits project netlist
  pub lacks : LacksSites project files netlist error

-- a test has no bench for the design, which is not too large and of which sites are left
pub record HasNoBenches (project : Project) (files : List SourceFile) (error : SourceError) : Type 0 where
  pub netlist : RawNetlist
  pub design : HasDesign project files netlist
  pub few : IsWithinLimits project netlist
  pub sites : HasSites project files netlist
  pub reading : Reading
  pub is_reading : IsReading files (names_of files) project.top netlist reading
  pub fault : IsTrialFault reading 0 project.tests error

-- What the files are refused for: they are no modules; those of the design have no netlist; they have one that is too large; the
-- project leaves out all its sites; or a test has no bench.
abbrev pub IsSourceBad : Project → List SourceFile → SourceError → Type 0
IsSourceBad project files error =
    HasNoModules files error
    ⊎ HasNoDesign project files error
    ⊎ ((netlist : RawNetlist) × HasDesign project files netlist × IsTooLarge project netlist error)
    ⊎ HasNoSites project files error
    ⊎ HasNoBenches project files error

-- why the project and these files make no campaign
abbrev pub IsUnprepared : Project → List SourceFile → PrepareError → Type 0
IsUnprepared project files (Unprepared error) = IsSourceBad project files error
IsUnprepared project files ShortOfMemory = ⊤

-- what the refusal of a netlist, or of a bench, is
abbrev pub prepare_error : NetlistError → PrepareError
prepare_error (Source error) = Unprepared error
prepare_error NoMemory = ShortOfMemory

-- the same, as what a call is refused for
abbrev pub refused_as : PrepareError → Refusal
refused_as (Unprepared error) = SourceBad error
refused_as ShortOfMemory = Memory

-- why the files of a design make no campaign
abbrev pub IsUntakenDesign : Project → List SourceFile → Refusal → Type 0
IsUntakenDesign project files (SourceBad error) = IsSourceBad project files error
IsUntakenDesign project files Memory = ⊤
IsUntakenDesign project files refusal = ⊥

-- the project file is refused for this,
pub record AtProject (held : Option Held) (refusal : Refusal) : Type 0 where
  pub config : List ℕ
  pub got : Got held config_name config
  pub why : IsUntaken config refusal

-- or the sources are
pub record AtSources (held : Option Held) (refusal : Refusal) : Type 0 where
  pub project : Project
  pub files : List SourceFile
  pub got : GotSources held project files
  pub why : IsUntakenDesign project files refusal

-- why the files make no campaign
abbrev pub IsUnmade : Option Held → Refusal → Type 0
IsUnmade held (ProjectBad error) = AtProject held (ProjectBad error)
IsUnmade held (ScriptBad error) = AtProject held (ScriptBad error)
IsUnmade held (Missing name) = IsRead held name × Lacks held name
IsUnmade held (TooLarge name) = IsRead held name × Exceeds held name
IsUnmade held (ReadFault name) = IsRead held name
IsUnmade held (SourceBad error) = AtSources held (SourceBad error)
IsUnmade held Memory = ⊤

-- a fault of reading comes only where the count rose
abbrev pub HasReadCause : ℕ → ℕ → Refusal → Type 0
HasReadCause before now (ReadFault name) = Rose before now
HasReadCause before now refusal = ⊤

-- For proofs alone.

abbrev pub IsRefusedAsLarge : Project → RawNetlist → PrepareError → Type 0
IsRefusedAsLarge project netlist (Unprepared error) = IsTooLarge project netlist error
IsRefusedAsLarge project netlist ShortOfMemory = ⊤

-- as what it is refused for
abbrev pub IsRefusedWithoutSites : Project → List SourceFile → RawNetlist → PrepareError → Type 0
IsRefusedWithoutSites project files netlist (Unprepared error) = LacksSites project files netlist error
IsRefusedWithoutSites project files netlist ShortOfMemory = ⊤

-- why a test of the project has no bench for this netlist of its design
abbrev pub IsUnbenched : Project → List SourceFile → RawNetlist → PrepareError → Type 0
IsUnbenched project files netlist (Unprepared error) = (r : Reading) × IsReading files (names_of files) project.top netlist r × IsTrialFault r 0 project.tests error
IsUnbenched project files netlist ShortOfMemory = ⊤

-- why the file of this name is not read
abbrev pub IsUnread : Option Held → List ℕ → Refusal → Type 0
IsUnread held name (Missing which) = (which ≡ name) × Lacks held name
IsUnread held name (TooLarge which) = (which ≡ name) × Exceeds held name
IsUnread held name (ReadFault which) = which ≡ name
IsUnread held name Memory = ⊤
IsUnread held name refusal = ⊥

-- why these files are not all read
abbrev pub IsUnreadAmong : Option Held → List (List ℕ) → Refusal → Type 0
IsUnreadAmong held names refusal = (name : List ℕ) × IsNext held names name × IsUnread held name refusal
