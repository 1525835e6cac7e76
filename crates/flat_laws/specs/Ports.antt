-- The ports of the top: the names in the head of its module, in its scope, which is the first one.
use Rattle.std.specs.Prelude.{◌≡◌, List, [], ◌∷◌, slice_get, Option, None, Some}
use Rattle.vlog_syntax.specs.declared.identifier.Identifier.{Identifier}
use Rattle.vlog_syntax.specs.declared.item.Direction.{Direction}
use Rattle.flat_scopes.specs.declared.signal.Signal.{Signal}
use Rattle.flat_scopes.specs.declared.signal.What.{What}
use Rattle.flat_scopes.specs.declared.signal.What.TheVariants as w
use Rattle.flat_scopes.specs.Owns.{Own}
use Rattle.flat_items.specs.Flattened.{Flat}
use Rattle.flat_instances.specs.Places.{Place}
use Rattle.flat_instances.specs.declared.item.FlatItem.{FlatItem}
use Rattle.flat_instances.specs.declared.item.FlatItem.TheVariants as f

abbrev pub IsDirected : Option Direction → Type 0
IsDirected None = ⊥
IsDirected (Some direction) = Unit {0}

abbrev pub HasDirection : Option Signal → Type 0
HasDirection None = ⊥
HasDirection (Some s) = IsDirected s.direction

-- a name stands for a signal that is an input or an output
abbrev pub IsPort : List Signal → Option What → Type 0
IsPort signals (Some (w.Variable k)) = HasDirection (slice_get signals k)
IsPort signals other = ⊥

abbrev pub ArePorts : List Signal → Own → List Identifier → Type 0
ArePorts signals own [] = Unit {0}
ArePorts signals own (n ∷ more) = IsPort signals (own n.name) × ArePorts signals own more

-- Nothing is refused in a list of items.

abbrev pub IsAccepted : FlatItem → Type 0
IsAccepted (f.Refuses error) = ⊥
IsAccepted other = Unit {0}

abbrev pub AreAccepted : List FlatItem → Type 0
AreAccepted [] = Unit {0}
AreAccepted (item ∷ more) = IsAccepted item × AreAccepted more

-- these names are ports of the top
abbrev pub HasPorts : Flat → List Identifier → Type 0
HasPorts flat ports = (top : Place) × (slice_get flat.places 0 ≡ Some top) × ArePorts flat.signals top.own ports
