-- Where nets are driven.
use Rattle.std.specs.Prelude.{◌≡◌, ℕ, ◌≤◌, ◌<◌, List, [], slice_get, slice_index_or, Some}
use Rattle.netlist_core.specs.declared.bit.Bit.{Bit}
use Rattle.netlist_core.specs.declared.bit.Bit.TheVariants.{Net}
use Rattle.netlist_core.specs.Drivers.{times, times_at}
use Rattle.cycle_sim.specs.declared.parts.Place.{Place}

-- For proofs alone.

-- the place of a net in a table
abbrev pub place_of : List Place → ℕ → Place
place_of places n = slice_index_or places n (record { driver = 0; bit = 0 })

-- the net stands at the place
abbrev pub IsAt : List (List Bit) → Place → ℕ → Type 0
IsAt drivers place n = slice_get (slice_index_or drivers place.driver []) place.bit ≡ Some (Net n)

-- each net of the bits stands at its place
abbrev pub ArePlaced : List (List Bit) → List Place → List Bit → Type 0
ArePlaced drivers places bits = (n : ℕ) → 1 ≤ times n bits → IsAt drivers (place_of places n) n

abbrev pub ArePortsPlaced : List (List Bit) → List Place → List (List Bit) → Type 0
ArePortsPlaced drivers places ports = (n : ℕ) → 1 ≤ times_at n ports → IsAt drivers (place_of places n) n

-- each net of the bits is below the limit
abbrev pub AreBelow : ℕ → List Bit → Type 0
AreBelow limit bits = (n : ℕ) → 1 ≤ times n bits → n < limit

abbrev pub ArePortsBelow : ℕ → List (List Bit) → Type 0
ArePortsBelow limit ports = (n : ℕ) → 1 ≤ times_at n ports → n < limit

-- The bits' nets have places at this driver, and the places of the others are kept.
pub record AreMarked (driver : ℕ) (bits whole : List Bit) (old new : List Place) : Type 0 where
  pub marked : (n : ℕ) → 1 ≤ times n bits → ((place_of new n).driver ≡ driver) × (slice_get whole (place_of new n).bit ≡ Some (Net n))
  pub kept : (n : ℕ) → times n bits ≡ 0 → place_of new n ≡ place_of old n
