-- Sound designs: signals have sizes, names are those of signals with the same bits, and items speak of signals and scopes that
-- there are.
use Rattle.std.specs.Prelude.{◌≡◌, ℕ, ◌+◌, ◌<◌, ◌≤◌, true, List, [], ◌∷◌, length, nat_eq, nat_lt, slice_get, Option, None, Some, if◌then◌else◌}
use Rattle.vlog_meaning.specs.declared.scope.Decl.{Decl}
use Rattle.vlog_meaning.specs.declared.scope.Decl.TheVariants as d
use Rattle.flat_scopes.specs.declared.signal.Signal.{Signal}
use Rattle.flat_scopes.specs.declared.signal.What.{What}
use Rattle.flat_scopes.specs.declared.signal.What.TheVariants as w
use Rattle.flat_items.specs.Flattened.{Flat}
use Rattle.flat_instances.specs.Places.{Place}
use Rattle.flat_instances.specs.Wires.{is_left}
use Rattle.flat_instances.specs.declared.item.FlatItem.{FlatItem}
use Rattle.flat_instances.specs.declared.item.FlatItem.TheVariants as f

-- each signal has from 1 to 128 bits
abbrev pub AreSized : List Signal → Type 0
AreSized [] = Unit {0}
AreSized (s ∷ more) = (1 ≤ s.bits.width) × (s.bits.width ≤ 128) × AreSized more

-- Names.

abbrev pub HasBits : (width low : ℕ) → Option Signal → Type 0
HasBits width low None = ⊥
HasBits width low (Some s) = (s.bits.width ≡ width) × (s.bits.low ≡ low)

-- what is declared as a signal has the number of one with these bits
abbrev pub NamesSignal : List Signal → Option Decl → Type 0
NamesSignal signals (Some (d.Signal width low is_signed k)) = HasBits width low (slice_get signals k)
NamesSignal signals (Some (d.Constant value low is_signed)) = Unit {0}
NamesSignal signals None = Unit {0}

-- what a scope declares as a signal has the number of one
abbrev pub OwnsSignal : (signals : ℕ) → Option What → Type 0
OwnsSignal n (Some (w.Variable k)) = k < n
OwnsSignal n other = Unit {0}

pub record PlaceStands (signals : List Signal) (p : Place) : Type 0 where
  pub names : (name : List ℕ) → NamesSignal signals (p.names name)
  pub own : (name : List ℕ) → OwnsSignal (length signals) (p.own name)

-- Items, where there are so many signals and scopes. What an output is connected to has the form of a left side.

abbrev pub ItemStands : (signals places : ℕ) → FlatItem → Type 0
ItemStands n m (f.Declares k) = k < n
ItemStands n m (f.Assigns k left right) = k < m
ItemStands n m (f.Drives k net value) = k < m
ItemStands n m (f.Enters port k value) = (port < n) × (k < m)
ItemStands n m (f.Open port) = port < n
ItemStands n m (f.Leaves k value inside port) = (k < m) × (inside < m) × (is_left value ≡ true)
ItemStands n m (f.Runs k process) = k < m
ItemStands n m (f.Starts number k value) = (number < n) × (k < m)
ItemStands n m (f.Refuses error) = Unit {0}

abbrev pub AllStand : (signals places : ℕ) → List FlatItem → Type 0
AllStand n m [] = Unit {0}
AllStand n m (item ∷ more) = ItemStands n m item × AllStand n m more

-- how many items declare a signal

abbrev pub declares : ℕ → FlatItem → ℕ
declares k (f.Declares n) = if nat_eq n k then 1 else 0
declares k other = 0

abbrev pub times_declared : ℕ → List FlatItem → ℕ
times_declared k [] = 0
times_declared k (item ∷ more) = declares k item + times_declared k more

-- A sound design: the top is the first scope, and each signal is declared by one item, in which order ever.
pub record IsSound (flat : Flat) : Type 0 where
  pub sized : AreSized flat.signals
  pub top : 1 ≤ length flat.places
  pub places : (i : ℕ) (p : Place) → slice_get flat.places i ≡ Some p → PlaceStands flat.signals p
  pub items : AllStand (length flat.signals) (length flat.places) flat.items
  pub once : (k : ℕ) → times_declared k flat.items ≡ (if nat_lt k (length flat.signals) then 1 else 0)
