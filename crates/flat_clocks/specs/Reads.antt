-- Where expressions, left sides and statements read the clock, each at the name that is read. Lists of events read nothing, and in a
-- loop its variable is a constant (IEEE 1364-2005, 9.6 and 9.7).
use Rattle.std.specs.Prelude.{ℕ, Bool, not, ◌&&◌, List, [], ◌∷◌, ◌++◌, Option, None, Some, if◌then◌else◌}
use Rattle.std.specs.List.{flat_map}
use Rattle.std.specs.Str.{bytes_eq}
use Rattle.vlog_syntax.specs.declared.expr.Expr.{Expr}
use Rattle.vlog_syntax.specs.declared.expr.Expr.TheOpen as e
use Rattle.vlog_syntax.specs.declared.expr.Expr.TheOpen.{Expr-F}
use Rattle.vlog_syntax.specs.declared.expr.Expr.TheFolds.{fold-Expr}
use Rattle.vlog_syntax.specs.declared.feature.Feature.TheVariants.{ClockAsData}
use Rattle.vlog_syntax.specs.declared.identifier.Identifier.{Identifier}
use Rattle.vlog_syntax.specs.declared.left_side.LeftSide.{LeftSide, out-LeftSide}
use Rattle.vlog_syntax.specs.declared.left_side.LeftSide.TheOpen as l
use Rattle.vlog_syntax.specs.declared.left_side.LeftSide.TheOpen.{LeftSide-F}
use Rattle.vlog_syntax.specs.declared.left_side.LeftSide.TheFolds.{fold-LeftSide}
use Rattle.vlog_syntax.specs.declared.stmt.Argument.{Argument}
use Rattle.vlog_syntax.specs.declared.stmt.Argument.TheVariants as a
use Rattle.vlog_syntax.specs.declared.stmt.Assignment.{Assignment}
use Rattle.vlog_syntax.specs.declared.stmt.CaseItem.{CaseItem}
use Rattle.vlog_syntax.specs.declared.stmt.Stmt.{Stmt}
use Rattle.vlog_syntax.specs.declared.stmt.Stmt.TheOpen as s
use Rattle.vlog_syntax.specs.declared.stmt.Stmt.TheOpen.{Stmt-F, CaseItem-F}
use Rattle.vlog_syntax.specs.declared.stmt.Stmt.TheFolds.{fold-Stmt, fold-CaseItem}
use Rattle.vlog_effects.specs.Steps.{name_alone}
use Rattle.elab_proc.specs.declared.refusal.Refusal.{Refusal}
use Rattle.elab_proc.specs.declared.refusal.Refusal.TheVariants.{Unsupported}

-- which names are the clock
abbrev pub ClockNames : Type 0
ClockNames = List ℕ → Bool

abbrev pub name_reads : ClockNames → Identifier → List Refusal
name_reads is n = if is n.name then Unsupported n.span ClockAsData ∷ [] else []

-- Expressions: what one reads where its value is taken, and what it reads where it stands as a left side, whose names are written.

pub record Read : Type 0 where
  pub value : List Refusal
  pub left : List Refusal

abbrev pub values_read : List Read → List Refusal
values_read [] = []
values_read (r ∷ more) = r.value ++ values_read more

abbrev pub lefts_read : List Read → List Refusal
lefts_read [] = []
lefts_read (r ∷ more) = r.left ++ lefts_read more

-- a value alone
abbrev pub taken : List Refusal → Read
taken reads = record { value = reads; left = [] }

abbrev pub expr_step : ClockNames → Expr-F Read → Read
expr_step is (e.Number n) = taken []
expr_step is (e.Name n) = taken (name_reads is n)
expr_step is (e.BitSelect n at index) = record { value = name_reads is n ++ index.value; left = index.value }
expr_step is (e.PartSelect n at msb lsb) = record { value = name_reads is n ++ (msb.value ++ lsb.value); left = msb.value ++ lsb.value }
expr_step is (e.IndexedPartSelect n at base width) = record { value = name_reads is n ++ (base.value ++ width.value); left = base.value ++ width.value }
expr_step is (e.Parenthesized at inner) = taken inner.value
expr_step is (e.Unary at operator operand) = taken operand.value
expr_step is (e.Binary at operator left right) = taken (left.value ++ right.value)
expr_step is (e.Conditional at condition first second) = taken (condition.value ++ (first.value ++ second.value))
expr_step is (e.Concatenation at parts) = record { value = values_read parts; left = lefts_read parts }
expr_step is (e.MultipleConcatenation at count parts) = taken (count.value ++ values_read parts)
expr_step is (e.SystemFunctionCall n arguments) = taken (values_read arguments)

abbrev pub read : ClockNames → Expr → Read
read is = fold-Expr Read (expr_step is)

abbrev pub expr_reads : ClockNames → Expr → List Refusal
expr_reads is x = (read is x).value

-- an expression that stands as a left side, as behind an output of an instance
abbrev pub form_reads : ClockNames → Expr → List Refusal
form_reads is x = (read is x).left

-- Left sides: their selects are read.

abbrev pub all_read : List (List Refusal) → List Refusal
all_read [] = []
all_read (reads ∷ more) = reads ++ all_read more

abbrev pub left_step : ClockNames → LeftSide-F (List Refusal) → List Refusal
left_step is (l.Name n) = []
left_step is (l.BitSelect n at index) = expr_reads is index
left_step is (l.PartSelect n at msb lsb) = expr_reads is msb ++ expr_reads is lsb
left_step is (l.IndexedPartSelect n at base width) = expr_reads is base ++ expr_reads is width
left_step is (l.Concatenation at parts) = all_read parts

abbrev pub left_reads : ClockNames → LeftSide → List Refusal
left_reads is = fold-LeftSide (List Refusal) (left_step is)

abbrev pub assignment_reads : ClockNames → Assignment → List Refusal
assignment_reads is x = left_reads is x.left ++ expr_reads is x.value

-- Statements: what each reads, by the names that are the clock where it stands.

abbrev pub Reading : Type 0
Reading = ClockNames → List Refusal

abbrev pub in_turn : List Reading → Reading
in_turn [] is = []
in_turn (r ∷ more) is = r is ++ in_turn more is

abbrev pub else_reads : Option Reading → Reading
else_reads None is = []
else_reads (Some r) is = r is

abbrev pub argument_reads : ClockNames → Argument → List Refusal
argument_reads is (a.String text at) = []
argument_reads is (a.Expr x) = expr_reads is x

-- in a loop its variable is no clock
abbrev pub inside : Option Identifier → ClockNames → ClockNames
inside None is name = is name
inside (Some n) is name = not (bytes_eq n.name name) && is name

abbrev pub turn_reads : Expr → Assignment → Reading → Reading
turn_reads condition step body is = expr_reads is condition ++ (assignment_reads is step ++ body is)

abbrev pub stmt_step : Stmt-F Reading Reading → Reading
stmt_step (s.Null at) is = []
stmt_step (s.SeqBlock at label body) is = in_turn body is
stmt_step (s.Conditional at condition first second) is = expr_reads is condition ++ (first is ++ else_reads second is)
stmt_step (s.Case at kind selector items) is = expr_reads is selector ++ in_turn items is
stmt_step (s.For at start condition step body) is = assignment_reads is start ++ turn_reads condition step body (inside (name_alone (out-LeftSide start.left)) is)
stmt_step (s.While at condition body) is = expr_reads is condition ++ body is
stmt_step (s.Repeat at count body) is = expr_reads is count ++ body is
stmt_step (s.Forever at body) is = body is
stmt_step (s.EventControl at control body) is = body is
stmt_step (s.DelayControl at delay body) is = expr_reads is delay ++ body is
stmt_step (s.SystemTaskEnable n arguments) is = flat_map (argument_reads is) arguments
stmt_step (s.BlockingAssignment x) is = assignment_reads is x
stmt_step (s.NonblockingAssignment x) is = assignment_reads is x

abbrev pub item_step : CaseItem-F Reading Reading → Reading
item_step i is = flat_map (expr_reads is) i.labels ++ i.body is

abbrev pub stmt_reads : Stmt → Reading
stmt_reads = fold-Stmt Reading Reading stmt_step item_step

-- For proofs alone.

abbrev pub item_reads : CaseItem → Reading
item_reads = fold-CaseItem Reading Reading stmt_step item_step
