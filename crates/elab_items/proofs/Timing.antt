-- The first of what is found in an item and of how it misuses the clock.
use Rattle.elab_items.proofs.Common.{◌≡◌, ◌≤◌, Bool, List, length, Option, Some, None, refl, subst, Refusal, IsFirst, Kind, Building, max_cells, Flat, FlatItem, Clocks, Refused, TooMany, Found}
use Rattle.elab_items.proofs.Common.{Builds, Fails, BuildsTimed, FailsTimed, IsSooner}
use Rattle.flat_clocks.specs.Refusals.{clock_refusals}
use Rattle.elab_items.specs.declared.error.Reason.{Reason}
use Rattle.elab_items.proofs.Counting.{cells_fit}

-- What is built and what is not, with the use of the clock.

pub timed_built : (inputs : List Bool) (flat : Flat) (clocks : Clocks) (item : FlatItem) (old new : Building) (late : Option Refusal) → Builds inputs flat.places item old new → IsFirst (clock_refusals clocks flat.signals flat.places item) late → late ≡ None → length new.cells ≤ max_cells → BuildsTimed inputs flat clocks item old new
timed_built inputs flat clocks item old new late h first is few = record { builds = h; timed = subst (IsFirst (clock_refusals clocks flat.signals flat.places item)) is first; few = cells_fit inputs flat.places item old new h few }

pub timed_late : (inputs : List Bool) (flat : Flat) (clocks : Clocks) (item : FlatItem) (old new : Building) (late : Option Refusal) (r : Refusal) → Builds inputs flat.places item old new → IsFirst (clock_refusals clocks flat.signals flat.places item) late → late ≡ Some r → FailsTimed inputs flat clocks item old (Refused (Found r))
timed_late inputs flat clocks item old new late r h first is = (None, h.accepted, (Some r, subst (IsFirst (clock_refusals clocks flat.signals flat.places item)) is first, refl))

pub error_sooner : (inputs : List Bool) (flat : Flat) (clocks : Clocks) (item : FlatItem) (old : Building) (own reason : Reason) → Fails inputs flat.places item old (Refused own) → IsSooner (Some own) (clock_refusals clocks flat.signals flat.places item) (Some reason) → FailsTimed inputs flat clocks item old (Refused reason)
error_sooner inputs flat clocks item old own reason h s = (Some own, h, s)

pub error_late : (inputs : List Bool) (flat : Flat) (clocks : Clocks) (item : FlatItem) (old : Building) (kind : Kind) (r : Refusal) → Fails inputs flat.places item old (TooMany kind) → IsFirst (clock_refusals clocks flat.signals flat.places item) (Some r) → FailsTimed inputs flat clocks item old (Refused (Found r))
error_late inputs flat clocks item old kind r h first = (None, h.0, (Some r, first, refl))

pub error_short : (inputs : List Bool) (flat : Flat) (clocks : Clocks) (item : FlatItem) (old : Building) (kind : Kind) → Fails inputs flat.places item old (TooMany kind) → IsFirst (clock_refusals clocks flat.signals flat.places item) None → FailsTimed inputs flat clocks item old (TooMany kind)
error_short inputs flat clocks item old kind h first = ((None, h.0, (None, first, refl)), h.1)
