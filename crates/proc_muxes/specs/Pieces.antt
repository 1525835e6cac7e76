-- Left sides as the code has them: a piece for each part (IEEE 1364-2005, A.8.5).
use Rattle.std.specs.Prelude.{◌≡◌, ℕ, ◌+◌, ◌<◌, ◌≤◌, ◌^◌, ℤ, Bool, List, [], ◌∷◌, ◌++◌, map, length, Option, Some, None, IsTrue, if◌then◌else◌}
use Rattle.mcy_base.specs.declared.span.Span.{Span}
use Rattle.netlist_core.specs.declared.bit.Bit.{Bit}
use Rattle.vlog_syntax.specs.declared.expr.Expr.{Expr}
use Rattle.vlog_meaning.specs.Integers.{bound_integer}
use Rattle.vlog_meaning.specs.Scopes.{Names, nothing}
use Rattle.vlog_meaning.specs.Senses.{sense, constant_integer}
use Rattle.vlog_effects.specs.Expressions.{is_constant}
use Rattle.vlog_effects.specs.LeftSides.{Part, Vector, part_vector, select_base, select_width}
use Rattle.vlog_effects.specs.Latches.{Target}
use Rattle.net_builder.specs.Building.{Building}
use Rattle.proc_muxes.specs.declared.piece.Piece.{Piece}
use Rattle.proc_muxes.specs.declared.piece.Place.{Place}
use Rattle.proc_muxes.specs.declared.piece.Place.TheVariants.{From, At}
use Rattle.proc_muxes.specs.Builds.{Work, held, Index, variable_index, HasPlainBase, BuildsIndex, BuildsIndices}
use Rattle.proc_muxes.specs.Working.{AreBits}

-- For proofs alone.

-- the vector of a piece
abbrev pub vector_at : Piece → Vector
vector_at x = record { number = x.number; width = x.width; low = x.low }

-- Bits are written from a number on where there is no variable index, and else at that index.
abbrev pub IsPlace : Option Index → ℤ → Place → Type 0
IsPlace None base (From bound) = base ≡ bound_integer bound
IsPlace None base (At index span) = ⊥
IsPlace (Some i) base (From bound) = ⊥
IsPlace (Some i) base (At index span) = i.place ≡ span

-- the bits of the index, if there is one
abbrev pub index_bits : Place → List Bit
index_bits (From bound) = []
index_bits (At index span) = index

abbrev pub indices_of : List Piece → List (List Bit)
indices_of xs = map (λ x. index_bits x.place) xs

-- a piece is that of a part
pub record IsPiece (names : Names) (p : Part) (x : Piece) : Type 0 where
  pub vector : part_vector names p ≡ Some (vector_at x)
  pub size : select_width names (vector_at x) p.select ≡ x.size
  pub place : IsPlace (variable_index names p.select) (select_base names nothing (vector_at x) p.select) x.place
  pub plain : (i : Index) → variable_index names p.select ≡ Some i → HasPlainBase names p.select i.expr

abbrev pub ArePieces : Names → List Part → List Piece → Type 0
ArePieces names [] [] = Unit {0}
ArePieces names [] (x ∷ xs) = ⊥
ArePieces names (p ∷ ps) [] = ⊥
ArePieces names (p ∷ ps) (x ∷ xs) = IsPiece names p x × ArePieces names ps xs

-- what can be written there, where the lowest bit of the vector is number `low`
abbrev pub CanBePlaced : ℕ → ℕ → Place → Type 0
CanBePlaced nets low (From bound) = IsTrue bound.is_negative → bound.magnitude ≤ 2 ^ 127
CanBePlaced nets low (At index span) = (low ≡ 0) × AreBits nets index

pub record IsFitPiece (nets : ℕ) (x : Piece) : Type 0 where
  pub some : 1 ≤ x.size
  pub narrow : x.size ≤ 128
  pub place : CanBePlaced nets x.low x.place

abbrev pub AreFitPieces : ℕ → List Piece → Type 0
AreFitPieces nets [] = Unit {0}
AreFitPieces nets (x ∷ xs) = IsFitPiece nets x × AreFitPieces nets xs

-- the vector of a piece has its bits
pub record IsHeldPiece (a : Work) (is_blocking : Bool) (x : Piece) : Type 0 where
  pub known : x.number < length a.building.signals
  pub long : length (held a is_blocking x.number) ≡ x.width
  pub some : 1 ≤ x.width
  pub narrow : x.width ≤ 128

abbrev pub AreHeldPieces : Work → Bool → List Piece → Type 0
AreHeldPieces a is_blocking [] = Unit {0}
AreHeldPieces a is_blocking (x ∷ xs) = IsHeldPiece a is_blocking x × AreHeldPieces a is_blocking xs

-- how many bits are written
abbrev pub sizes : List Piece → ℕ
sizes [] = 0
sizes (x ∷ xs) = x.size + sizes xs

-- the variable that a piece writes, at no place
abbrev pub piece_target : Bool → Piece → Target
piece_target is_blocking x = record { number = x.number; width = x.width; place = record { file = 0; line = 0; col = 0 }; is_blocking = is_blocking }

abbrev pub piece_targets : Bool → List Piece → List Target
piece_targets is_blocking xs = map (piece_target is_blocking) xs

-- an index that is no constant, and the place of its `[`
abbrev pub index_at : Names → Span → Expr → Option Index
index_at names span i = if is_constant names i then None else Some (record { place = span; expr = i })

-- An index gave a place: its cells were added, if it is no constant.
pub record IsPlaced (names : Names) (span : Span) (i : Expr) (a b : Building) (place : Place) : Type 0 where
  pub is : IsPlace (index_at names span i) (constant_integer (sense names i)) place
  pub fit : (low : ℕ) → ((index : Index) → index_at names span i ≡ Some index → low ≡ 0) → CanBePlaced b.nets low place
  pub built : BuildsIndex names (index_at names span i) a b (index_bits place)

-- A part gave a piece, and the cells of its index were added.
pub record MakesPiece (names : Names) (p : Part) (a b : Building) (x : Piece) : Type 0 where
  pub piece : IsPiece names p x
  pub fit : IsFitPiece b.nets x
  pub built : BuildsIndex names (variable_index names p.select) a b (index_bits x.place)

-- Parts gave pieces, one after the other, and the cells of their indices were added.
pub record MakesPieces (names : Names) (ps : List Part) (a b : Building) (before after : List Piece) : Type 0 where
  pub more : List Piece
  pub joined : after ≡ before ++ more
  pub are : ArePieces names ps more
  pub fit : AreFitPieces b.nets more
  pub built : BuildsIndices names ps a b (indices_of more)
