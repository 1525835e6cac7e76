-- Parts of left sides as they are kept: consecutive bits of a signal.
use Rattle.std.specs.Prelude.{◌≡◌, ℕ, ◌<◌, ℤ, ◌+ℤ◌, pos, List, [], ◌∷◌, ◌++◌, map, length, Option, Some, None}
use Rattle.std.specs.List.{flat_map}
use Rattle.mcy_base.specs.declared.span.Span.{Span}
use Rattle.vlog_syntax.specs.declared.expr.Expr.{Expr}
use Rattle.vlog_syntax.specs.declared.identifier.Identifier.{Identifier}
use Rattle.vlog_syntax.specs.declared.left_side.LeftSide.{LeftSide}
use Rattle.vlog_meaning.specs.declared.fault.Fault.{Fault}
use Rattle.vlog_meaning.specs.Answers.{least}
use Rattle.vlog_meaning.specs.Integers.{bound_integer}
use Rattle.vlog_meaning.specs.Scopes.{Names}
use Rattle.vlog_effects.specs.LeftSides.{Part, Select, Whole, Bit, Range, Indexed, Vector, bit_at, bits_from, parts_of}
use Rattle.net_builder.specs.Building.{Building, HasSignals, signal}
use Rattle.elab_proc.specs.Refusals.{same_form}
use Rattle.flat_assigns.specs.declared.slice.Slice.{Slice as Kept}
use Rattle.flat_assigns.specs.declared.refusal.Writer.{Writer}
use Rattle.flat_assigns.specs.Sides.{Slice, part_form, slices, target_faults}
use Rattle.flat_assigns.specs.Writers.{Target}

-- For proofs alone.

abbrev pub vector_in : Kept → Vector
vector_in s = record { number = s.signal; width = s.width; low = s.low }

-- bit k of a part
abbrev pub bit_in : Kept → ℕ → Option ℕ
bit_in s k = bit_at (vector_in s) (bound_integer s.base +ℤ pos k)

-- the lowest bits of a part
abbrev pub first_bits : Kept → ℕ → List (Option ℕ)
first_bits s count = bits_from (vector_in s) (bound_integer s.base) count

-- Left sides that are one part.

abbrev pub IsPart : LeftSide → Part → Type 0
IsPart left p = (parts_of left ≡ p ∷ []) × (same_form left ≡ part_form p)

abbrev pub IsName : LeftSide → Identifier → Type 0
IsName left name = IsPart left (record { name = name; select = Whole })

abbrev pub IsRange : LeftSide → Identifier → Expr → Type 0
IsRange left name lsb = (at : Span) × (msb : Expr) × IsPart left (record { name = name; select = Range at msb lsb })

abbrev pub HasIndex : Select → Expr → Type 0
HasIndex (Bit at i) index = i ≡ index
HasIndex (Indexed at base count) index = base ≡ index
HasIndex select index = ⊥

abbrev pub IsIndexed : LeftSide → Identifier → Expr → Type 0
IsIndexed left name index = (s : Select) × HasIndex s index × IsPart left (record { name = name; select = s })

-- the part that is kept
abbrev pub slice_of : Kept → Slice
slice_of s = record { span = s.span; signal = s.signal; bits = first_bits s s.size }

abbrev pub slices_of : List Kept → List Slice
slices_of kept = map slice_of kept

abbrev pub listed : Option Kept → List Kept
listed None = []
listed (Some s) = s ∷ []

abbrev pub kept_slices : Option Kept → List Slice
kept_slices None = []
kept_slices (Some s) = slice_of s ∷ []

-- the part is one of a signal that the builder has
abbrev pub IsInside : Building → Kept → Type 0
IsInside b s = (s.signal < length b.signals) × (length (signal b s.signal) ≡ s.width)

abbrev pub AllInside : Building → List Kept → Type 0
AllInside b [] = Unit {0}
AllInside b (s ∷ more) = IsInside b s × AllInside b more

abbrev pub AllWithin : Building → Option Kept → Type 0
AllWithin b None = Unit {0}
AllWithin b (Some s) = IsInside b s

-- Parts were read: what is wrong with their names and indices first, and those in which nothing is wrong are kept behind
-- the others.
pub record IsScanned (names : Names) (old new : List Kept) (ps : List Part) (found : Option Fault) : Type 0 where
  pub first : found ≡ least (flat_map (target_faults names) ps)
  pub slices : slices_of new ≡ slices_of old ++ slices names ps
  pub inside : (b : Building) → HasSignals names b → AllInside b old → AllInside b new

-- a bit that has a writer, by its name's place and its signal
abbrev pub IsWriter : Option Target → Option Writer → Type 0
IsWriter None None = Unit {0}
IsWriter (Some t) (Some w) = (w.span ≡ t.span) × (w.signal ≡ t.place.signal)
IsWriter target writer = ⊥

-- The part that is kept of a vector: its bits from this declared number on, so many. There is none where there is no vector.
abbrev pub IsPartOf : Span → Option Vector → (Vector → ℤ) → (Vector → ℕ) → Option Kept → Type 0
IsPartOf span None base size None = Unit {0}
IsPartOf span (Some v) base size (Some s) = (s.span ≡ span) × (vector_in s ≡ v) × (bound_integer s.base ≡ base v) × (s.size ≡ size v)
IsPartOf span vector base size kept = ⊥
