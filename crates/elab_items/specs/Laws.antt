-- What is built of a flattened design is that of its design.
use Rattle.std.specs.Prelude.{ℕ, Bool, List, Option}
use Rattle.vlog_syntax.specs.declared.identifier.Identifier.{Identifier}
use Rattle.vlog_meaning.specs.Scopes.{nothing}
use Rattle.net_builder.specs.Building.{Building, empty}
use Rattle.flat_runs.specs.Designs.{Design}
use Rattle.flat_runs.specs.Adding.{AddsItems}
use Rattle.flat_runs.specs.Finishing.{Begins}
use Rattle.process_cells.specs.Items.{widths_in}
use Rattle.process_cells.specs.Starts.{SameButStarts, StartsWith}
use Rattle.flat_items.specs.Flattened.{Flat}
use Rattle.flat_laws.specs.Sound.{IsSound}
use Rattle.elab_items.specs.Signals.{declared}
use Rattle.elab_items.specs.Designs.{IsDesign}
use Rattle.elab_items.specs.Starting.{AllStart}
use Rattle.flat_clocks.specs.Clocks.{Clocks}
use Rattle.elab_items.specs.Items.{Stands}
use Rattle.elab_items.specs.Timed.{BuildsAll}

-- Where all items are built, one after the other, in the builder in which the signals are declared and have start values, what they
-- mean is added, and nothing else; and no start value is refused.
abbrev pub ItemsAreAdded : Type 0
ItemsAreAdded = (ports : List Identifier) (clock : Option ℕ) (flat : Flat) (inputs : List Bool) (clocks : Clocks) (first last : Building)
    → SameButStarts (declared flat.signals empty) first → BuildsAll inputs flat clocks flat.items first last
    → (design : Design) × IsDesign ports clock flat design × AddsItems design.items first last × AllStart (widths_in first) flat.places flat.items

-- In the builder in which the signals of a sound design are declared, the names of each scope are signals, and each starts with 0.
abbrev pub SoundAreDeclared : Type 0
SoundAreDeclared = (flat : Flat) → IsSound flat → Stands flat.places (declared flat.signals empty) × StartsWith (declared flat.signals empty) nothing

-- A builder that has the signals of a sound design, with any start values, begins the design.
abbrev pub DesignsBegin : Type 0
DesignsBegin = (ports : List Identifier) (clock : Option ℕ) (flat : Flat) (first : Building) (design : Design) → IsSound flat → SameButStarts (declared flat.signals empty) first → IsDesign ports clock flat design → Begins first design
