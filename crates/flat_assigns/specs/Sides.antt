-- Left sides of continuous assignments (IEEE 1364-2005, 6.1 and A.8.5): what is wrong in them, and which bits they write.
use Rattle.std.specs.Prelude.{ℕ, List, [], ◌∷◌, ◌++◌, map, Option, Some, None}
use Rattle.std.specs.List.{flat_map}
use Rattle.mcy_base.specs.declared.span.Span.{Span}
use Rattle.vlog_syntax.specs.declared.expr.Expr.{Expr}
use Rattle.vlog_syntax.specs.declared.expr.Expr.TheVariants as e
use Rattle.vlog_syntax.specs.declared.identifier.Identifier.{Identifier}
use Rattle.vlog_syntax.specs.declared.left_side.LeftSide.{LeftSide}
use Rattle.vlog_meaning.specs.declared.fault.Cause.TheVariants.{Unknown}
use Rattle.vlog_meaning.specs.declared.fault.Fault.{Fault}
use Rattle.vlog_meaning.specs.declared.scope.Decl.{Decl}
use Rattle.vlog_meaning.specs.declared.scope.Decl.TheVariants.{Constant}
use Rattle.vlog_meaning.specs.Scopes.{Names, nothing}
use Rattle.vlog_meaning.specs.Senses.{sense, fault}
use Rattle.vlog_effects.specs.Expressions.{width_of}
use Rattle.vlog_effects.specs.LeftSides.{Select, Whole, Bit, Range, Indexed, Part, Vector, parts_of, part_vector, places}
use Rattle.elab_proc.specs.Refusals.{index_faults, same_form}
use Rattle.flat_runs.specs.Meanings.{Place}

-- What is wrong in a left side: what is wrong in the expression of the same form, and besides, each part names a signal, and
-- its index is a constant.

abbrev pub constant_target : Span → Option Decl → List Fault
constant_target span (Some (Constant value low is_signed)) = fault Unknown span ∷ []
constant_target span decl = []

abbrev pub target_faults : Names → Part → List Fault
target_faults names p = constant_target p.name.span (names p.name.name) ++ index_faults names p.select

abbrev pub left_faults : Names → LeftSide → List Fault
left_faults names left = (sense names (same_form left)).faults ++ flat_map (target_faults names) (parts_of left)

-- the bits that it has
abbrev pub left_width : Names → LeftSide → ℕ
left_width names left = width_of names (same_form left)

-- What is wrong in a part by itself.

abbrev pub form_of : Identifier → Select → Expr
form_of name Whole = e.Name name
form_of name (Bit at i) = e.BitSelect name at i
form_of name (Range at msb lsb) = e.PartSelect name at msb lsb
form_of name (Indexed at base count) = e.IndexedPartSelect name at base count

abbrev pub part_form : Part → Expr
part_form p = form_of p.name p.select

abbrev pub part_faults : Names → Part → List Fault
part_faults names p = (sense names (part_form p)).faults ++ target_faults names p

-- What a part writes: bits of a signal, its lowest first, with the place of the name. A bit outside the declared range is
-- none.
pub record Slice : Type 0 where
  pub span : Span
  pub signal : ℕ
  pub bits : List (Option ℕ)

abbrev pub vector_slices : Names → Part → Option Vector → List Slice
vector_slices names p None = []
vector_slices names p (Some v) = record { span = p.name.span; signal = v.number; bits = places names nothing v p.select } ∷ []

abbrev pub part_slices : Names → Part → List Fault → List Slice
part_slices names p [] = vector_slices names p (part_vector names p)
part_slices names p (f ∷ more) = []

-- what a part writes where nothing is wrong in it
abbrev pub own_slices : Names → Part → List Slice
own_slices names p = part_slices names p (part_faults names p)

-- what parts write, from the left
abbrev pub slices : Names → List Part → List Slice
slices names ps = flat_map (own_slices names) ps

-- the places in the design of a signal's bits
abbrev pub placed : ℕ → Option ℕ → Option Place
placed signal None = None
placed signal (Some i) = Some (record { signal = signal; bit = i })

abbrev pub slice_places : Slice → List (Option Place)
slice_places s = map (placed s.signal) s.bits

-- The places of parts together, from the lowest on: the last part has the lowest.
abbrev pub all_places : List Slice → List (Option Place)
all_places [] = []
all_places (s ∷ more) = all_places more ++ slice_places s

-- the places that a left side writes, from the lowest on
abbrev pub left_places : Names → LeftSide → List (Option Place)
left_places names left = all_places (slices names (parts_of left))
