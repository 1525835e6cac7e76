-- What is refused in the statements of a process, and where.
use Rattle.std.specs.Prelude.{ℕ, Bool, false, not, ◌&&◌, List, [], ◌∷◌, ◌++◌, map, Option, None, Some, slice_index_or, if◌then◌else◌}
use Rattle.std.specs.List.{flat_map}
use Rattle.mcy_base.specs.declared.span.Span.{Span}
use Rattle.vlog_syntax.specs.declared.expr.Expr.{Expr}
use Rattle.vlog_syntax.specs.declared.expr.Expr.TheVariants as v
use Rattle.vlog_syntax.specs.declared.feature.Feature.TheVariants.{NonblockingInComb}
use Rattle.vlog_syntax.specs.declared.left_side.LeftSide.{LeftSide}
use Rattle.vlog_syntax.specs.declared.left_side.LeftSide.TheOpen as l
use Rattle.vlog_syntax.specs.declared.left_side.LeftSide.TheOpen.{LeftSide-F}
use Rattle.vlog_syntax.specs.declared.left_side.LeftSide.TheFolds.{fold-LeftSide}
use Rattle.vlog_syntax.specs.declared.stmt.CaseItem.{CaseItem, out-CaseItem}
use Rattle.vlog_syntax.specs.declared.stmt.Stmt.{Stmt}
use Rattle.vlog_meaning.specs.declared.fault.Cause.TheVariants as cause
use Rattle.vlog_meaning.specs.declared.fault.ConstError.{ConstError}
use Rattle.vlog_meaning.specs.declared.fault.ConstError.TheVariants as k
use Rattle.vlog_meaning.specs.declared.fault.Fault.{Fault}
use Rattle.vlog_meaning.specs.declared.scope.Decl.{Decl}
use Rattle.vlog_meaning.specs.declared.scope.Decl.TheVariants.{Signal, Constant}
use Rattle.vlog_meaning.specs.Operators.{IsSized}
use Rattle.vlog_meaning.specs.Scopes.{Names, decl_shape}
use Rattle.vlog_meaning.specs.Senses.{fault}
use Rattle.expr_plans.specs.Made.{plan}
use Rattle.vlog_effects.specs.LeftSides.{Part, parts_of}
use Rattle.vlog_effects.specs.Steps.{Assigning, Flaw, Const, Lacks, Turns, Steps, Done, Assign, Choose, Case, Refuse, Arms, Otherwise, Arm}
use Rattle.vlog_refusals.specs.Cases.{case_faults as case_faults_by}
use Rattle.vlog_refusals.specs.Expressions.{wrong as wrong_by, own_faults as own_faults_by, sides_faults as sides_faults_by}
pub use Rattle.vlog_refusals.specs.Cases.{AllWithin, LabelsWithin, common_size, labels_in, widened, zeros_at}
pub use Rattle.vlog_refusals.specs.Expressions.{divisions, index_faults}
use Rattle.elab_proc.specs.declared.refusal.Refusal.{Refusal}
use Rattle.elab_proc.specs.declared.refusal.Refusal.TheVariants.{Wrong, Unsupported, TwoWriters, LoopTurns}

-- Expressions, which become cells.

abbrev pub not_supported : Names → Expr → List Fault
not_supported names x = (plan names x).unsupported

-- what is wrong in an expression, or not supported in it
abbrev pub wrong : Names → Expr → List Fault
wrong = wrong_by not_supported

-- in one that stands for itself, as a condition does
abbrev pub own_faults : Names → Expr → List Fault
own_faults = own_faults_by not_supported

-- in the sides of an assignment
abbrev pub sides_faults : Names → Expr → Expr → List Fault
sides_faults = sides_faults_by not_supported

-- in the selector and labels of a case
abbrev pub case_faults : Names → List Expr → List Fault
case_faults = case_faults_by not_supported

-- Left sides (IEEE 1364-2005, A.8.5).

abbrev pub form_step : LeftSide-F Expr → Expr
form_step (l.Name n) = v.Name n
form_step (l.BitSelect n s i) = v.BitSelect n s i
form_step (l.PartSelect n s msb lsb) = v.PartSelect n s msb lsb
form_step (l.IndexedPartSelect n s base width) = v.IndexedPartSelect n s base width
form_step (l.Concatenation s parts) = v.Concatenation s parts

-- the expression of the same form, with which a left side shares what is wrong in it
abbrev pub same_form : LeftSide → Expr
same_form = fold-LeftSide Expr form_step

-- the signal of this number has a writer outside the process
abbrev pub is_written : List Bool → ℕ → Bool
is_written written number = slice_index_or written number false

-- a name that is written: a signal without another writer
abbrev pub name_refusals : List Bool → Span → Option Decl → List Refusal
name_refusals written span (Some (Signal width low is_signed number)) = if is_written written number then TwoWriters span number ∷ [] else []
name_refusals written span (Some (Constant value low is_signed)) = Wrong (fault cause.Unknown span) ∷ []
name_refusals written span None = []

abbrev pub part_refusals : Names → List Bool → Part → List Refusal
part_refusals names written p = name_refusals written p.name.span (names p.name.name)

-- in a combinational process all assignments are blocking
abbrev pub kind_refusals : (is_combinational is_blocking : Bool) → Span → List Refusal
kind_refusals is_combinational is_blocking span = if is_combinational && not is_blocking then Unsupported span NonblockingInComb ∷ [] else []

abbrev pub assign_refusals : Bool → List Bool → Assigning → List Refusal
assign_refusals is_combinational written a = map Wrong (sides_faults a.names (same_form a.left) a.right) ++ (flat_map (part_refusals a.names written) (parts_of a.left) ++ kind_refusals is_combinational a.is_blocking a.place)

-- Steps.

abbrev pub const_refusal : ConstError → Refusal
const_refusal (k.Unknown span) = Wrong (fault cause.Unknown span)
const_refusal (k.NotConstant span) = Wrong (fault cause.NotConstant span)
const_refusal (k.DivideByZero span) = Wrong (fault cause.DivideByZero span)
const_refusal (k.TooWide span) = Wrong (fault cause.TooWide span)
const_refusal (k.SystemFunction span) = Wrong (fault cause.SystemFunction span)
const_refusal (k.Drawn span) = Wrong (fault cause.Drawn span)

abbrev pub flaw_refusal : Flaw → Refusal
flaw_refusal (Const error) = const_refusal error
flaw_refusal (Lacks span feature) = Unsupported span feature
flaw_refusal (Turns span) = LoopTurns span

-- What is refused in a case, from what is wrong in its selector and labels, what is refused in its arms, and what is in the bodies of all
-- its items. Which of these are arms rests on the size of the case: so where it is refused itself, all are looked at.
abbrev pub case_refusals : List Fault → (arms bodies : List Refusal) → List Refusal
case_refusals [] arms bodies = arms
case_refusals (f ∷ more) arms bodies = map Wrong (f ∷ more) ++ bodies

-- What is refused in steps.
abbrev mutual
  pub step_refusals : Bool → List Bool → Steps → List Refusal
  step_refusals comb written Done = []
  step_refusals comb written (Assign a more) = assign_refusals comb written a ++ step_refusals comb written more
  step_refusals comb written (Choose at c then_part else_part more) = map Wrong (own_faults c.names c.condition) ++ (step_refusals comb written then_part ++ (step_refusals comb written else_part ++ step_refusals comb written more))
  step_refusals comb written (Case c arms bodies more) = case_refusals (case_faults c.names (c.selector ∷ c.labels)) (arm_refusals comb written arms) (step_refusals comb written bodies) ++ step_refusals comb written more
  step_refusals comb written (Refuse x more) = flaw_refusal x ∷ step_refusals comb written more

  pub arm_refusals : Bool → List Bool → Arms → List Refusal
  arm_refusals comb written (Otherwise body) = step_refusals comb written body
  arm_refusals comb written (Arm at labels body others) = step_refusals comb written body ++ arm_refusals comb written others

-- each declared signal has from 1 to 128 bits
abbrev pub AreSized : Names → Type 0
AreSized names = (name : List ℕ) → IsSized (decl_shape (names name))

-- For proofs alone.

-- the body of an item
abbrev pub body_in : CaseItem → Stmt
body_in i = (out-CaseItem i).body
