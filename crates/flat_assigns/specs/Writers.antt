-- Which bit of a left side has a writer already.
use Rattle.std.specs.Prelude.{◌≡◌, ◌⊎◌, ℕ, Bool, false, IsTrue, List, [], ◌∷◌, ◌++◌, Option, Some, None, slice_index_or}
use Rattle.std.specs.List.{Contains}
use Rattle.mcy_base.specs.declared.span.Span.{Span}
use Rattle.net_builder.specs.Building.{Building}
use Rattle.flat_runs.specs.Meanings.{Place}
use Rattle.flat_runs.specs.Adding.{IsWritten}
use Rattle.flat_assigns.specs.Sides.{Slice}

-- a bit that is written, with the place of the name
pub record Target : Type 0 where
  pub span : Span
  pub place : Place

abbrev pub bit_targets : Span → ℕ → List (Option ℕ) → List Target
bit_targets span signal [] = []
bit_targets span signal (None ∷ more) = bit_targets span signal more
bit_targets span signal (Some i ∷ more) = record { span = span; place = record { signal = signal; bit = i } } ∷ bit_targets span signal more

-- the bits that parts write, from the left part on
abbrev pub targets : List Slice → List Target
targets [] = []
targets (s ∷ more) = bit_targets s.span s.signal s.bits ++ targets more

-- The bit has a writer: the port of an input of the top, what was built before, or the same left side.
abbrev pub HasWriter : Building → List Bool → List Place → Place → Type 0
HasWriter b inputs before p = IsTrue (slice_index_or inputs p.signal false) ⊎ (IsWritten b p.signal p.bit ⊎ Contains before p)

-- The first of the bits that has a writer, or none, where these bits were written before in the same left side.
abbrev pub IsFirstWritten : Building → List Bool → List Place → List Target → Option Target → Type 0
IsFirstWritten b inputs before [] found = found ≡ None
IsFirstWritten b inputs before (t ∷ more) found = (HasWriter b inputs before t.place × (found ≡ Some t)) ⊎ ((¬ HasWriter b inputs before t.place) × IsFirstWritten b inputs (before ++ t.place ∷ []) more found)
