-- The nets of bits that the same left side writes before.
use Rattle.std.specs.Prelude.{◌≡◌, ◌⊎◌, ◌↔◌, ℕ, Bool, true, false, List, [], ◌∷◌, ◌++◌, map, Option, Some, None}
use Rattle.std.specs.List.{Contains}
use Rattle.std.specs.BTreeSet.{BTreeSet, contains}
use Rattle.std.specs.Ordering.{nat_cmp}
use Rattle.mcy_base.specs.declared.span.Span.{Span}
use Rattle.net_builder.specs.Building.{Building}
use Rattle.flat_runs.specs.Meanings.{Place}
use Rattle.net_builder.specs.Written.{IsJoined, IsStored}
use Rattle.flat_runs.specs.Adding.{IsBit}
use Rattle.flat_assigns.specs.Writers.{Target, bit_targets, HasWriter, IsFirstWritten}

-- For proofs alone.

-- numbers of nets
abbrev pub NetSet : Type 0
NetSet = BTreeSet ℕ

abbrev pub has : NetSet → ℕ → Bool
has seen n = contains nat_cmp seen n

-- the set has the nets of these bits
abbrev pub HasSeen : Building → NetSet → List Place → Type 0
HasSeen b seen before = (n : ℕ) → (has seen n ≡ true) ↔ ((p : Place) × Contains before p × IsBit b p.signal p.bit n)

-- the net is joined or a register's, or the set had it; else the set has it now
abbrev pub IsMet : Building → ℕ → NetSet → NetSet → Bool → Type 0
IsMet b net old new true = (IsJoined b net ⊎ IsStored b net) ⊎ (has old net ≡ true)
IsMet b net old new false = (¬ (IsJoined b net ⊎ IsStored b net)) × (has old net ≡ false) × ((n : ℕ) → (has new n ≡ true) ↔ ((n ≡ net) ⊎ (has old n ≡ true)))

-- the bit has a writer; else the set has its net now
abbrev pub IsTaken : Building → List Bool → List Place → Place → NetSet → Bool → Type 0
IsTaken b inputs before p seen true = HasWriter b inputs before p
IsTaken b inputs before p seen false = (¬ HasWriter b inputs before p) × HasSeen b seen (before ++ p ∷ [])

abbrev pub places_of : List Target → List Place
places_of ts = map (λ t. t.place) ts

-- one of the bits of a signal has a writer; else the set has their nets now
abbrev pub IsPassed : Building → List Bool → List Place → Span → ℕ → List (Option ℕ) → NetSet → Bool → Type 0
IsPassed b inputs before span signal bits seen true = (t : Target) × (t.span ≡ span) × (t.place.signal ≡ signal) × IsFirstWritten b inputs before (bit_targets span signal bits) (Some t)
IsPassed b inputs before span signal bits seen false = IsFirstWritten b inputs before (bit_targets span signal bits) None × HasSeen b seen (before ++ places_of (bit_targets span signal bits))
