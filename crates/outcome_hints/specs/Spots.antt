-- Where a fault is, as a terminal shows it: at a place of a source, in a line of the project file, or in the section of a test there.
use Rattle.std.specs.Prelude.{ℕ, Option, Some, None, ⊤}
use Rattle.mcy_base.specs.declared.span.Span.{Span}
use Rattle.project_lines.specs.declared.error.ProjectError.{ProjectError}
use Rattle.project_lines.specs.declared.error.ProjectError.TheVariants as p
use Rattle.project_lines.specs.declared.error.What.{What}
use Rattle.project_lines.specs.declared.error.What.TheVariants as w
use Rattle.tag_script.specs.declared.script.ScriptError.{ScriptError}
use Rattle.tag_script.specs.declared.script.ScriptError.TheVariants as s
use Rattle.source_faults.specs.declared.fault.SourceFault.{SourceFault}
use Rattle.source_faults.specs.declared.fault.SourceFault.TheVariants as f
use Rattle.source_faults.specs.Faults.{bench_place, elab_place, parse_place, token_place}
use Rattle.campaign_outcomes.specs.declared.outcome.Outcome.{Outcome}
use Rattle.campaign_outcomes.specs.declared.outcome.Outcome.TheVariants as o
use Rattle.outcome_hints.specs.declared.told.Spot.{Spot}
use Rattle.outcome_hints.specs.declared.told.Spot.TheVariants.{Nowhere, Source, Line, Test}

-- the command was not carried out
abbrev pub IsRefused : Outcome → Type 0
IsRefused o.Done = ⊥
IsRefused (o.Unfinished left) = ⊥
IsRefused outcome = ⊤

-- For proofs alone.

-- at this place, if there is one
abbrev pub spot_of : Option Span → Spot
spot_of None = Nowhere
spot_of (Some place) = Source place

-- at this place, or in the section of a test
abbrev pub spot_in : (test : ℕ) → Option Span → Spot
spot_in test None = Test test
spot_in test (Some place) = Source place

abbrev pub source_spot : SourceFault → Spot
source_spot (f.NotUtf8 len) = Nowhere
source_spot (f.Token error) = spot_of (token_place error)
source_spot (f.Parse error) = spot_of (parse_place error)
source_spot (f.Elab error) = spot_of (elab_place error)
source_spot (f.Bench test error) = spot_in test (bench_place error)
source_spot (f.TooMany kind) = Nowhere
source_spot f.NoSites = Nowhere

abbrev pub missing_spot : What → Spot
missing_spot (w.Kind test) = Test test
missing_spot (w.Pass test) = Test test
missing_spot what = Nowhere

abbrev pub project_spot : ProjectError → Spot
project_spot (p.NotUtf8 len) = Nowhere
project_spot (p.BadLine number) = Line number
project_spot (p.UnknownKey number) = Line number
project_spot (p.Repeated number) = Line number
project_spot (p.OutOfRange number) = Line number
project_spot (p.UnsupportedCommand number) = Line number
project_spot (p.Missing what) = missing_spot what
project_spot p.Memory = Nowhere

abbrev pub script_spot : ScriptError → Spot
script_spot (s.Indent number) = Line number
script_spot (s.Bad number) = Line number
script_spot (s.UnknownTest number) = Line number
script_spot (s.UnknownTag number) = Line number
script_spot (s.Unassigned number) = Line number
script_spot s.Memory = Nowhere
