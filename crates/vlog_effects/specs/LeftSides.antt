-- Left sides of assignments (IEEE 1364-2005, 9.2 and A.8.5): which bits they write.
use Rattle.std.specs.Prelude.{ℕ, zero, suc, ◌+◌, ◌-◌, ℤ, pos, negsuc, ◌+ℤ◌, ◌-ℤ◌, ◌&&◌, List, [], ◌∷◌, ◌++◌, Option, Some, None, nat_lt, nat_le, slice_set, if◌then◌else◌}
use Rattle.mcy_base.specs.declared.span.Span.{Span}
use Rattle.vlog_syntax.specs.declared.identifier.Identifier.{Identifier}
use Rattle.vlog_syntax.specs.declared.expr.Expr.{Expr}
use Rattle.vlog_syntax.specs.declared.left_side.LeftSide.{LeftSide}
use Rattle.vlog_syntax.specs.declared.left_side.LeftSide.TheOpen as l
use Rattle.vlog_syntax.specs.declared.left_side.LeftSide.TheOpen.{LeftSide-F}
use Rattle.vlog_syntax.specs.declared.left_side.LeftSide.TheFolds.{fold-LeftSide}
use Rattle.vlog_meaning.specs.declared.scope.Decl.{Decl}
use Rattle.vlog_meaning.specs.declared.scope.Decl.TheVariants.{Signal, Constant}
use Rattle.vlog_meaning.specs.Scopes.{Names}
use Rattle.vlog_meaning.specs.Integers.{natural}
use Rattle.vlog_meaning.specs.Senses.{sense, index_of}
use Rattle.vlog_effects.specs.Expressions.{bound_of}

-- what of a name is written
pub data Select : Type 0 where
  Whole : Select
  Bit : Span → Expr → Select
  Range : Span → Expr → Expr → Select
  Indexed : Span → Expr → Expr → Select

-- a name of a left side with its select
pub record Part : Type 0 where
  pub name : Identifier
  pub select : Select

abbrev pub concatenated : List (List Part) → List Part
concatenated [] = []
concatenated (ps ∷ more) = ps ++ concatenated more

abbrev pub parts_step : LeftSide-F (List Part) → List Part
parts_step (l.Name n) = record { name = n; select = Whole } ∷ []
parts_step (l.BitSelect n at i) = record { name = n; select = Bit at i } ∷ []
parts_step (l.PartSelect n at msb lsb) = record { name = n; select = Range at msb lsb } ∷ []
parts_step (l.IndexedPartSelect n at base count) = record { name = n; select = Indexed at base count } ∷ []
parts_step (l.Concatenation at parts) = concatenated parts

-- the parts of a left side, from the left
abbrev pub parts_of : LeftSide → List Part
parts_of = fold-LeftSide (List Part) parts_step

-- a vector: its number, its width, and the declared number of its bit 0
pub record Vector : Type 0 where
  pub number : ℕ
  pub width : ℕ
  pub low : ℕ

abbrev pub vector_of : Option Decl → Option Vector
vector_of (Some (Signal width low is_signed number)) = Some (record { number = number; width = width; low = low })
vector_of (Some (Constant value low is_signed)) = None
vector_of None = None

-- how many bits a select of a vector writes
abbrev pub select_width : Names → Vector → Select → ℕ
select_width names v Whole = v.width
select_width names v (Bit at i) = 1
select_width names v (Range at msb lsb) = natural (bound_of names msb -ℤ bound_of names lsb +ℤ pos 1)
select_width names v (Indexed at base count) = natural (bound_of names count)

-- the declared number of the lowest bit that it writes; an index stands for itself, and is below 0 where it is signed and negative
abbrev pub select_base : Names → (ℕ → ℕ) → Vector → Select → ℤ
select_base names store v Whole = pos v.low
select_base names store v (Bit at i) = index_of store (sense names i)
select_base names store v (Range at msb lsb) = bound_of names lsb
select_base names store v (Indexed at base count) = index_of store (sense names base)

-- the bit of a vector with this declared number; there is none outside the range
abbrev pub bit_at : Vector → ℤ → Option ℕ
bit_at v (negsuc n) = None
bit_at v (pos n) = if nat_le v.low n && nat_lt (n - v.low) v.width then Some (n - v.low) else None

-- the bits of a vector from this declared number on, so many
abbrev pub bits_from : Vector → ℤ → ℕ → List (Option ℕ)
bits_from v base zero = []
bits_from v base (suc count) = bit_at v base ∷ bits_from v (base +ℤ pos 1) count

-- The bits that a part writes, its lowest first. A bit outside the declared range is none.
abbrev pub places : Names → (ℕ → ℕ) → Vector → Select → List (Option ℕ)
places names store v s = bits_from v (select_base names store v s) (select_width names v s)

-- The bits with the values at these places, the first value first. A value without a place is dropped.
abbrev pub written : {A : Type 0} → List A → List (Option ℕ) → List A → List A
written old [] vs = old
written old (p ∷ ps) [] = old
written old (None ∷ ps) (v ∷ vs) = written old ps vs
written old (Some i ∷ ps) (v ∷ vs) = written (slice_set old i v) ps vs

-- the vector that a part names
abbrev pub part_vector : Names → Part → Option Vector
part_vector names p = vector_of (names p.name.name)

abbrev pub width_by : Names → Select → Option Vector → ℕ
width_by names s None = 0
width_by names s (Some v) = select_width names v s

abbrev pub part_width : Names → Part → ℕ
part_width names p = width_by names p.select (part_vector names p)

-- the width of parts together
abbrev pub parts_width : Names → List Part → ℕ
parts_width names [] = 0
parts_width names (p ∷ ps) = part_width names p + parts_width names ps
