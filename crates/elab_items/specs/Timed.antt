-- Items with their use of the clock: an item is refused for what comes first in it by place.
use Rattle.std.specs.Prelude.{◌≡◌, ◌⊎◌, ◌+◌, ◌≤◌, Bool, List, [], ◌∷◌, length, option_map, Option, None, Some}
use Rattle.net_builder.specs.Building.{Building}
use Rattle.net_builder.specs.Refusals.{max_cells}
use Rattle.elab_proc.specs.declared.refusal.Refusal.{Refusal}
use Rattle.elab_proc.specs.Order.{IsFirst}
use Rattle.process_cells.specs.Items.{widths_in}
use Rattle.flat_items.specs.Flattened.{Flat}
use Rattle.flat_instances.specs.declared.item.FlatItem.{FlatItem}
use Rattle.flat_clocks.specs.Clocks.{Clocks}
use Rattle.flat_clocks.specs.Refusals.{clock_refusals}
use Rattle.elab_items.specs.declared.error.BuildError.{BuildError}
use Rattle.elab_items.specs.declared.error.BuildError.TheVariants.{Refused, TooMany, Memory}
use Rattle.elab_items.specs.declared.error.Reason.{Reason}
use Rattle.elab_items.specs.declared.error.Reason.TheVariants.{Found}
use Rattle.elab_items.specs.Items.{Builds, IsShort, Refuses, cell_count}

-- The first by place of what is refused in an item and of how it misuses the clock. What is listed, and a start value, stand alone.
abbrev pub IsSooner : (own : Option Reason) → (clock : List Refusal) → Option Reason → Type 0
IsSooner None clock reason = (x : Option Refusal) × IsFirst clock x × (reason ≡ option_map Found x)
IsSooner (Some (Found own)) clock reason = (x : Option Refusal) × IsFirst (own ∷ clock) x × (reason ≡ option_map Found x)
IsSooner (Some other) clock reason = reason ≡ Some other

-- the first refusal of an item, or none
abbrev pub RefusesTimed : Building → List Bool → Flat → Clocks → FlatItem → Option Reason → Type 0
RefusesTimed b inputs flat clocks item reason = (own : Option Reason) × Refuses b inputs flat.places item own × IsSooner own (clock_refusals clocks flat.signals flat.places item) reason

-- An item is built, in which nothing is refused, and for whose cells there is room.
pub record BuildsTimed (inputs : List Bool) (flat : Flat) (clocks : Clocks) (item : FlatItem) (old new : Building) : Type 0 where
  pub builds : Builds inputs flat.places item old new
  pub timed : clock_refusals clocks flat.signals flat.places item ≡ []
  pub few : length old.cells + cell_count (widths_in old) flat.places item ≤ max_cells

-- An item is not built: it is refused, or there is no room for its cells.
abbrev pub FailsTimed : List Bool → Flat → Clocks → FlatItem → Building → BuildError → Type 0
FailsTimed inputs flat clocks item old (Refused reason) = RefusesTimed old inputs flat clocks item (Some reason)
FailsTimed inputs flat clocks item old (TooMany kind) = RefusesTimed old inputs flat clocks item None × IsShort (length old.cells + cell_count (widths_in old) flat.places item) (TooMany kind)
FailsTimed inputs flat clocks item old Memory = Unit {0}

-- all items are built, one after the other
abbrev pub BuildsAll : List Bool → Flat → Clocks → List FlatItem → Building → Building → Type 0
BuildsAll inputs flat clocks [] old new = new ≡ old
BuildsAll inputs flat clocks (item ∷ more) old new = (mid : Building) × BuildsTimed inputs flat clocks item old mid × BuildsAll inputs flat clocks more mid new

-- An item is not built, where those before it are: the first one that is refused, or for which there is no room.
abbrev pub FailsSome : List Bool → Flat → Clocks → List FlatItem → Building → BuildError → Type 0
FailsSome inputs flat clocks [] old error = ⊥
FailsSome inputs flat clocks (item ∷ more) old error = FailsTimed inputs flat clocks item old error ⊎ ((mid : Building) × BuildsTimed inputs flat clocks item old mid × FailsSome inputs flat clocks more mid error)
