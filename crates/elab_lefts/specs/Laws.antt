-- Left sides of designs that are built.
use Rattle.std.specs.Prelude.{Bool, List}
use Rattle.net_builder.specs.Building.{Building, empty}
use Rattle.process_cells.specs.Starts.{SameButStarts}
use Rattle.flat_items.specs.Flattened.{Flat}
use Rattle.flat_clocks.specs.Clocks.{Clocks}
use Rattle.elab_finish.specs.Loops.{AreCovered}
use Rattle.elab_items.specs.Signals.{declared}
use Rattle.elab_items.specs.Timed.{BuildsAll}
use Rattle.elab_lefts.specs.Lefts.{design_lefts}

-- Where all items of a design are built in the builder that has its signals and their start values, each loop of nets has one of the
-- left sides.
abbrev pub BuiltAreCovered : Type 0
BuiltAreCovered = (flat : Flat) (inputs : List Bool) (clocks : Clocks) (first last : Building) → SameButStarts (declared flat.signals empty) first → BuildsAll inputs flat clocks flat.items first last → AreCovered last (design_lefts flat)
