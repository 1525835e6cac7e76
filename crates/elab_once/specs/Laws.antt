-- The items of a flattened design are refused in one way: the definitions of `elab_items` leave no choice but that of a limit.
use Rattle.std.specs.Prelude.{◌≡◌, ℕ, Bool, List, Option}
use Rattle.vlog_syntax.specs.declared.identifier.Identifier.{Identifier}
use Rattle.net_builder.specs.Building.{Building}
use Rattle.flat_runs.specs.Designs.{Design}
use Rattle.flat_instances.specs.declared.item.FlatItem.{FlatItem}
use Rattle.flat_items.specs.Flattened.{Flat}
use Rattle.flat_clocks.specs.Clocks.{Clocks}
use Rattle.process_cells.specs.Starts.{SameButStarts}
use Rattle.elab_items.specs.declared.error.BuildError.{BuildError}
use Rattle.elab_items.specs.declared.error.Reason.{Reason}
use Rattle.elab_items.specs.Designs.{IsDesign}
use Rattle.elab_items.specs.Items.{Stands}
use Rattle.elab_items.specs.Laid.{lay_items}
use Rattle.elab_items.specs.Timed.{BuildsAll, FailsSome, RefusesTimed}
use Rattle.elab_once.specs.Alike.{AreAlike}
use Rattle.elab_once.specs.Reasons.{AreOneAnswer, IsLimit}

-- Builders that differ in start values alone are alike.
abbrev pub BeginAlike : Type 0
BeginAlike = (old b c : Building) → SameButStarts old b → SameButStarts old c → AreAlike b c

-- In builders that are alike an item has one first refusal, or none.
abbrev pub RefusedOnce : Type 0
RefusedOnce = (inputs : List Bool) (flat : Flat) (clocks : Clocks) (item : FlatItem) (b c : Building) (x y : Option Reason)
    → AreAlike b c → Stands flat.places b → RefusesTimed b inputs flat clocks item x → RefusesTimed c inputs flat clocks item y → x ≡ y

-- Where the same items are built in builders that are alike, what they leave is alike.
abbrev pub BuiltAlike : Type 0
BuiltAlike = (inputs : List Bool) (flat : Flat) (clocks : Clocks) (items : List FlatItem) (b c last end : Building)
    → AreAlike b c → BuildsAll inputs flat clocks items b last → BuildsAll inputs flat clocks items c end → AreAlike last end

-- Items that are all built are not refused.
abbrev pub BuiltOrRefused : Type 0
BuiltOrRefused = (inputs : List Bool) (flat : Flat) (clocks : Clocks) (items : List FlatItem) (b c last : Building) (error : BuildError)
    → AreAlike b c → Stands flat.places b → BuildsAll inputs flat clocks items b last → FailsSome inputs flat clocks items c error → IsLimit error

-- Items that are not all built are refused for one reason, but for limits.
abbrev pub StopsOnce : Type 0
StopsOnce = (inputs : List Bool) (flat : Flat) (clocks : Clocks) (items : List FlatItem) (b c : Building) (x y : BuildError)
    → AreAlike b c → Stands flat.places b → FailsSome inputs flat clocks items b x → FailsSome inputs flat clocks items c y → AreOneAnswer x y

-- A flattened design means one design.
abbrev pub HasOneMeaning : Type 0
HasOneMeaning = (ports : List Identifier) (clock : Option ℕ) (flat : Flat) (design other : Design) → IsDesign ports clock flat design → IsDesign ports clock flat other → design ≡ other

-- Where all items are built, the builder is the one in which they are laid, one after the other.
abbrev pub ItemsAreLaid : Type 0
ItemsAreLaid = (inputs : List Bool) (flat : Flat) (clocks : Clocks) (items : List FlatItem) (b last : Building) → BuildsAll inputs flat clocks items b last → last ≡ lay_items flat.places items b

-- So what the same items leave of one builder is one: its cells, their wiring, its joints and its registers.
abbrev pub BuiltOnce : Type 0
BuiltOnce = (inputs : List Bool) (flat : Flat) (clocks : Clocks) (items : List FlatItem) (b last end : Building) → BuildsAll inputs flat clocks items b last → BuildsAll inputs flat clocks items b end → last ≡ end
