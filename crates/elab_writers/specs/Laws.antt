-- What holds of a builder in which all items of a flattened design are built.
use Rattle.std.specs.Prelude.{ℕ, Bool, List, Option}
use Rattle.vlog_syntax.specs.declared.identifier.Identifier.{Identifier}
use Rattle.vlog_meaning.specs.Scopes.{Store}
use Rattle.net_builder.specs.Building.{Building, empty}
use Rattle.flat_runs.specs.Meanings.{NoneTwice}
use Rattle.flat_runs.specs.Adding.{AddsItems}
use Rattle.flat_runs.specs.Designs.{Design}
use Rattle.flat_runs.specs.Writing.{HasOneWriter}
use Rattle.process_cells.specs.Starts.{SameButStarts, StartsWith}
use Rattle.flat_items.specs.Flattened.{Flat}
use Rattle.flat_clocks.specs.Clocks.{Clocks}
use Rattle.flat_laws.specs.Sound.{IsSound}
use Rattle.elab_items.specs.Designs.{IsDesign}
use Rattle.elab_items.specs.Items.{Stands}
use Rattle.elab_items.specs.Signals.{declared}
use Rattle.elab_items.specs.Timed.{BuildsAll}
use Rattle.elab_finish.specs.declared.left.Left.{Left}
use Rattle.elab_finish.specs.Endings.{CanFinish, IsDesignOf}
use Rattle.elab_finish.specs.Loops.{AreCovered}
use Rattle.elab_writers.specs.Numbers.{AreFlagged, declared_numbers, input_numbers, output_numbers}

-- Where each bit of a builder has one writer at most, it has one too where all items are built in it that are not refused; the
-- inputs, which have their flags, have none.
abbrev pub ItemsHaveOneWriter : Type 0
ItemsHaveOneWriter = (flat : Flat) (flags : List Bool) (clocks : Clocks) (ins : List ℕ) (first last : Building)
    → AreFlagged flags ins → Stands flat.places first → HasOneWriter first ins → BuildsAll flags flat clocks flat.items first last → HasOneWriter last ins

-- Where all items of a sound design are built in the builder that has its signals and their start values, the netlist can be made,
-- where no port stands twice and the left sides are those of all loops.
abbrev pub DesignsCanFinish : Type 0
DesignsCanFinish = (ports : List Identifier) (clock : Option ℕ) (flat : Flat) (flags : List Bool) (clocks : Clocks) (store : Store) (first last : Building) (lefts : List Left)
    → IsSound flat → SameButStarts (declared flat.signals empty) first → StartsWith first store → BuildsAll flags flat clocks flat.items first last
    → AreFlagged flags (input_numbers ports clock flat) → NoneTwice (input_numbers ports clock flat) → AreCovered last lefts
    → CanFinish last (input_numbers ports clock flat) (output_numbers ports flat) (declared_numbers flat.items) lefts

-- The builder is then that of the design: its ports, its registers in order and its start values are the design's.
abbrev pub BuildersAreOfDesigns : Type 0
BuildersAreOfDesigns = (ports : List Identifier) (clock : Option ℕ) (flat : Flat) (flags : List Bool) (clocks : Clocks) (first last : Building) (design : Design)
    → IsSound flat → SameButStarts (declared flat.signals empty) first → BuildsAll flags flat clocks flat.items first last
    → IsDesign ports clock flat design → AddsItems design.items first last → StartsWith first design.start
    → IsDesignOf last (input_numbers ports clock flat) (output_numbers ports flat) (declared_numbers flat.items) design
