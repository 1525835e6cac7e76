-- The cells that an expression makes, in order: operands first, left to right, then the operator's own. And what is not
-- supported in an expression that makes cells.
use Rattle.std.specs.Prelude.{ℕ, Bool, false, ◌&&◌, ◌||◌, ◌==◌, not, nat_lt, List, [], ◌∷◌, ◌++◌, map, Option, Some, None, if◌then◌else◌}
use Rattle.mcy_base.specs.declared.span.Span.{Span}
use Rattle.vlog_syntax.specs.declared.expr.Expr.{Expr}
use Rattle.vlog_syntax.specs.declared.expr.Expr.TheOpen as e
use Rattle.vlog_syntax.specs.declared.expr.Expr.TheOpen.{Expr-F}
use Rattle.vlog_syntax.specs.declared.expr.Expr.TheFolds.{fold-Expr, map-Expr}
use Rattle.vlog_syntax.specs.declared.operator.UnaryOperator.{UnaryOperator}
use Rattle.vlog_syntax.specs.declared.operator.BinaryOperator.{BinaryOperator}
use Rattle.vlog_syntax.specs.Places.{first_step}
use Rattle.netlist_core.specs.declared.cell.Cell.{Cell}
use Rattle.netlist_core.specs.declared.cell.CellKind.{CellKind}
use Rattle.netlist_core.specs.declared.cell.CellKind.TheVariants.{Ror, Mux, Pick}
use Rattle.netlist_core.specs.Shapes.{widths}
use Rattle.vlog_meaning.specs.declared.fault.Cause.TheVariants.{SystemFunction, IndexedBase}
use Rattle.vlog_meaning.specs.declared.fault.Fault.{Fault}
use Rattle.vlog_meaning.specs.declared.function.Function.{Function}
use Rattle.vlog_meaning.specs.declared.scope.Decl.{Decl}
use Rattle.vlog_meaning.specs.declared.function.Function.TheVariants.{Random, Time}
use Rattle.vlog_meaning.specs.declared.shapes.Shape.{Shape}
use Rattle.vlog_meaning.specs.Functions.{function_of}
use Rattle.vlog_meaning.specs.Integers.{natural}
use Rattle.vlog_meaning.specs.Operators.{sizing, left_context, right_context, result_width, operand_context, is_reduction}
use Rattle.vlog_meaning.specs.Scopes.{Names, decl_shape, decl_low}
use Rattle.vlog_meaning.specs.Senses.{Sense, step, is_empty, fault, constant_integer, index_features, binary_features}
use Rattle.expr_plans.specs.Kinds.{unary_kind, binary_kind, is_order}

-- A cell: its kind, whether its order is that of signed numbers, the widths of its ports with Y last, and its place.
pub record Made : Type 0 where
  pub kind : CellKind
  pub is_signed : Bool
  pub widths : List ℕ
  pub span : Span

abbrev pub made_of : Cell → Made
made_of cell = record { kind = cell.kind; is_signed = cell.is_signed; widths = widths cell.ports; span = cell.span }

-- What an expression says, where it begins, what is not supported in it where it is no constant, and the cells that it
-- makes where it is evaluated at a width and sign.
pub record Plan : Type 0 where
  pub sense : Sense
  pub first : Span
  pub unsupported : List Fault
  pub cells : Shape → List Made

-- What is not supported.

abbrev pub all_unsupported : List Plan → List Fault
all_unsupported [] = []
all_unsupported (a ∷ more) = a.unsupported ++ all_unsupported more

-- a call that changes from one evaluation to the next
abbrev pub call_unsupported : Option Function → Span → List Plan → List Fault
call_unsupported (Some Random) span arguments = fault SystemFunction span ∷ []
call_unsupported (Some Time) span arguments = fault SystemFunction span ∷ []
call_unsupported function span arguments = all_unsupported arguments

-- a base that is no constant of a vector whose lowest bit is not number 0, or one that is signed
abbrev pub base_features : Span → Option Decl → Sense → List Fault
base_features span decl base = if is_empty base.signals || (decl_low decl == 0 && not (is_empty base.faults && base.shape.is_signed)) then [] else fault IndexedBase span ∷ []

abbrev pub unsupported_step : Names → Expr-F Plan → List Fault
unsupported_step names (e.Number n) = []
unsupported_step names (e.Name n) = []
unsupported_step names (e.BitSelect n s i) = index_features s (names n.name) i.sense ++ i.unsupported
unsupported_step names (e.PartSelect n s msb lsb) = []
unsupported_step names (e.IndexedPartSelect n s base width) = base_features s (names n.name) base.sense ++ base.unsupported
unsupported_step names (e.Parenthesized s i) = i.unsupported
unsupported_step names (e.Unary s op i) = i.unsupported
unsupported_step names (e.Binary s op i j) = binary_features s op i.sense j.sense ++ (i.unsupported ++ j.unsupported)
unsupported_step names (e.Conditional s x i j) = x.unsupported ++ (i.unsupported ++ j.unsupported)
unsupported_step names (e.Concatenation s parts) = all_unsupported parts
unsupported_step names (e.MultipleConcatenation s count parts) = all_unsupported parts
unsupported_step names (e.SystemFunctionCall n arguments) = call_unsupported (function_of n.name) n.span arguments

-- Cells.

abbrev pub cell_of : Option CellKind → Bool → List ℕ → Span → List Made
cell_of None signed widths span = []
cell_of (Some kind) signed widths span = record { kind = kind; is_signed = is_order kind && signed; widths = widths; span = span } ∷ []

-- where it stands for itself
abbrev pub own_cells : Plan → List Made
own_cells a = a.cells a.sense.shape

abbrev pub all_cells : List Plan → List Made
all_cells [] = []
all_cells (a ∷ more) = own_cells a ++ all_cells more

-- the width of an index at a cell: a signed one has at least 9 bits there, so that what is below 0 lies outside of each vector
abbrev pub index_width : Shape → ℕ
index_width s = if s.is_signed && nat_lt s.width 9 then 9 else s.width

-- a select whose place is no constant
abbrev pub pick_cells : Names → List ℕ → Span → Plan → ℕ → List Made
pick_cells names name span i width = if is_empty i.sense.signals then [] else own_cells i ++ cell_of (Some Pick) false ((decl_shape (names name)).width ∷ index_width i.sense.shape ∷ width ∷ []) span

-- a condition wider than one bit is reduced
abbrev pub condition_cells : Plan → List Made
condition_cells x = own_cells x ++ (if nat_lt 1 x.sense.shape.width then cell_of (Some Ror) false (x.sense.shape.width ∷ 1 ∷ []) x.first else [])

abbrev pub unary_cells : Span → UnaryOperator → Plan → Shape → List Made
unary_cells span op i c =
    let s = operand_context op i.sense.shape c in
    i.cells s ++ cell_of (unary_kind op) false (s.width ∷ (if is_reduction op then 1 else s.width) ∷ []) span

abbrev pub binary_cells : Span → BinaryOperator → Plan → Plan → Shape → List Made
binary_cells span op i j c =
    let s = left_context (sizing op) i.sense.shape j.sense.shape c in
    let t = right_context (sizing op) i.sense.shape j.sense.shape c in
    i.cells s ++ (j.cells t ++ cell_of (binary_kind op s.is_signed) s.is_signed (s.width ∷ t.width ∷ result_width (sizing op) s ∷ []) span)

abbrev pub choice_cells : Span → Plan → Plan → Plan → Shape → List Made
choice_cells span x i j c = condition_cells x ++ (i.cells c ++ (j.cells c ++ cell_of (Some Mux) false (1 ∷ c.width ∷ c.width ∷ c.width ∷ []) span))

abbrev pub cells_step : Names → Expr-F Plan → Shape → List Made
cells_step names (e.Number n) c = []
cells_step names (e.Name n) c = []
cells_step names (e.BitSelect n s i) c = pick_cells names n.name s i 1
cells_step names (e.PartSelect n s msb lsb) c = []
cells_step names (e.IndexedPartSelect n s base width) c = pick_cells names n.name s base (natural (constant_integer width.sense))
cells_step names (e.Parenthesized s i) c = i.cells c
cells_step names (e.Unary s op i) c = unary_cells s op i c
cells_step names (e.Binary s op i j) c = binary_cells s op i j c
cells_step names (e.Conditional s x i j) c = choice_cells s x i j c
cells_step names (e.Concatenation s parts) c = all_cells parts
cells_step names (e.MultipleConcatenation s count parts) c = all_cells parts
cells_step names (e.SystemFunctionCall n arguments) c = all_cells arguments

-- The whole. The largest subexpressions that are constant make no cell.

abbrev pub plan_step : Names → Expr-F Plan → Plan
plan_step names x =
    let said = step names (map-Expr Plan Sense (λ p. p.sense) x) in
    record {
      sense = said;
      first = first_step (map-Expr Plan Span (λ p. p.first) x);
      unsupported = unsupported_step names x;
      cells = λ c. if is_empty said.signals then [] else cells_step names x c;
    }

abbrev pub plan : Names → Expr → Plan
plan names = fold-Expr Plan (plan_step names)

-- the cells that an expression makes
abbrev pub made : Names → Expr → Shape → List Made
made names x c = (plan names x).cells c

-- For proofs alone.

abbrev pub plans : Names → List Expr → List Plan
plans names = map (plan names)
