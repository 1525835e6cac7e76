-- Statements in which nothing is refused, and variables that have bits for them.
use Rattle.std.specs.Prelude.{◌≡◌, ◌<◌, ◌≤◌, List, [], ◌∷◌, length, Some}
use Rattle.vlog_syntax.specs.declared.expr.Expr.{Expr}
use Rattle.vlog_meaning.specs.declared.shapes.Shape.{Shape}
use Rattle.vlog_meaning.specs.Scopes.{Names}
use Rattle.vlog_meaning.specs.Senses.{sense, assigned, IsWhole, IsContext}
use Rattle.vlog_effects.specs.LeftSides.{Select, Whole, Bit as BitOf, Range, Indexed, Part, Vector, parts_of, part_vector, parts_width, select_width}
use Rattle.vlog_effects.specs.Steps.{Assigning, Steps, Done, Assign, Choose, Case, Refuse, Arms, Otherwise, Arm}
use Rattle.vlog_effects.specs.Latches.{Target, targets}
use Rattle.net_builder.specs.Building.{HasSignals}
use Rattle.elab_expr.specs.Expressions.{refusals}
use Rattle.elab_proc.specs.Refusals.{case_faults, AreSized}
use Rattle.proc_muxes.specs.Builds.{Work, held, Index, variable_index, HasPlainBase}
use Rattle.proc_muxes.specs.Shows.{StandsBelow}

-- the expressions of a select have shapes
abbrev pub IsWholeSelect : Names → Select → Type 0
IsWholeSelect names Whole = Unit {0}
IsWholeSelect names (BitOf at i) = IsWhole names i
IsWholeSelect names (Range at msb lsb) = IsWhole names msb × IsWhole names lsb
IsWholeSelect names (Indexed at base count) = IsWhole names base × IsWhole names count

-- a part that can be written: a variable index needs a vector whose lowest bit is number 0, nothing is refused in it, and a
-- base is unsigned
pub record IsClearPart (names : Names) (p : Part) (v : Vector) : Type 0 where
  pub vector : part_vector names p ≡ Some v
  pub some : 1 ≤ select_width names v p.select
  pub narrow : select_width names v p.select ≤ 128
  pub whole : IsWholeSelect names p.select
  pub low : (i : Index) → variable_index names p.select ≡ Some i → v.low ≡ 0
  pub index : (i : Index) → variable_index names p.select ≡ Some i → refusals names i.expr (sense names i.expr).shape ≡ []
  pub plain : (i : Index) → variable_index names p.select ≡ Some i → HasPlainBase names p.select i.expr

abbrev pub CanWrite : Names → Part → Type 0
CanWrite names p = (v : Vector) × IsClearPart names p v

abbrev pub CanWriteAll : Names → List Part → Type 0
CanWriteAll names [] = Unit {0}
CanWriteAll names (p ∷ ps) = CanWrite names p × CanWriteAll names ps

-- an assignment in which nothing is refused
pub record CanAssign (s : Assigning) : Type 0 where
  pub parts : CanWriteAll s.names (parts_of s.left)
  pub narrow : parts_width s.names (parts_of s.left) ≤ 128
  pub right : refusals s.names s.right (assigned (sense s.names s.right) (parts_width s.names (parts_of s.left))) ≡ []

-- a target has its bits, from 1 to 128
pub record IsHeld (a : Work) (x : Target) : Type 0 where
  pub known : x.number < length a.building.signals
  pub long : length (held a x.is_blocking x.number) ≡ x.width
  pub some : 1 ≤ x.width
  pub narrow : x.width ≤ 128

abbrev pub AreHeld : Work → List Target → Type 0
AreHeld a [] = Unit {0}
AreHeld a (x ∷ more) = IsHeld a x × AreHeld a more

-- Labels of a case.

-- Statements in which nothing is refused.
abbrev mutual
  pub IsClear : Steps → Type 0
  IsClear Done = Unit {0}
  IsClear (Assign s more) = CanAssign s × IsClear more
  IsClear (Choose at c then_part else_part more) = (refusals c.names c.condition (sense c.names c.condition).shape ≡ []) × IsClear then_part × IsClear else_part × IsClear more
  IsClear (Case c arms bodies more) = (case_faults c.names (c.selector ∷ c.labels) ≡ []) × AreClear arms × IsClear more
  IsClear (Refuse x more) = ⊥

  pub AreClear : Arms → Type 0
  AreClear (Otherwise body) = IsClear body
  AreClear (Arm at labels body others) = IsClear body × AreClear others

-- what the code of statements asks of the builder and the variables
pub record IsReady (names : Names) (steps : Steps) (a : Work) : Type 0 where
  pub clear : IsClear steps
  pub held : AreHeld a (targets steps)
  pub signals : HasSignals names a.building
  pub stands : StandsBelow a
  pub sized : AreSized names

-- For proofs alone.

-- a label in which nothing is refused at the size of its case
pub record IsClearLabel (names : Names) (size : Shape) (x : Expr) : Type 0 where
  pub within : IsContext (sense names x).shape size
  pub allowed : refusals names x size ≡ []

abbrev pub AreClearLabels : Names → Shape → List Expr → Type 0
AreClearLabels names size [] = Unit {0}
AreClearLabels names size (x ∷ more) = IsClearLabel names size x × AreClearLabels names size more
