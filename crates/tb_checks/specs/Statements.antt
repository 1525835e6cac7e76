-- What is wrong in the statements of a testbench, or not supported there, each at its place.
use Rattle.std.specs.Prelude.{ℕ, Bool, true, false, not, ◌&&◌, ◌||◌, nat_le, List, [], ◌∷◌, ◌++◌, map, length, Option, None, Some, codes, if◌then◌else◌}
use Rattle.std.specs.List.{flat_map, list_any, list_all}
use Rattle.std.specs.Str.{bytes_eq}
use Rattle.mcy_base.specs.declared.span.Span.{Span}
use Rattle.vlog_syntax.specs.declared.expr.Expr.{Expr}
use Rattle.vlog_syntax.specs.declared.feature.Feature.TheVariants as f
use Rattle.vlog_syntax.specs.declared.identifier.Identifier.{Identifier}
use Rattle.vlog_syntax.specs.declared.stmt.Argument.{Argument}
use Rattle.vlog_syntax.specs.declared.stmt.Argument.TheVariants as a
use Rattle.vlog_syntax.specs.declared.stmt.Assignment.{Assignment}
use Rattle.vlog_syntax.specs.declared.stmt.CaseItem.{CaseItem}
use Rattle.vlog_syntax.specs.declared.stmt.EventControl.{EventControl}
use Rattle.vlog_syntax.specs.declared.stmt.EventControl.TheVariants as c
use Rattle.vlog_syntax.specs.declared.stmt.EventExpression.{EventExpression}
use Rattle.vlog_syntax.specs.declared.stmt.Stmt.{Stmt}
use Rattle.vlog_syntax.specs.declared.stmt.Stmt.TheOpen as s
use Rattle.vlog_syntax.specs.declared.stmt.Stmt.TheOpen.{Stmt-F, CaseItem-F}
use Rattle.vlog_syntax.specs.declared.stmt.Stmt.TheFolds.{fold-Stmt, fold-CaseItem}
use Rattle.vlog_meaning.specs.declared.fault.Cause.TheVariants.{Unknown}
use Rattle.vlog_meaning.specs.declared.scope.Decl.{Decl}
use Rattle.vlog_meaning.specs.Scopes.{Names}
use Rattle.vlog_meaning.specs.Senses.{fault}
use Rattle.vlog_effects.specs.LeftSides.{parts_of}
use Rattle.process_events.specs.Events.{is_edge}
use Rattle.elab_proc.specs.Refusals.{same_form}
use Rattle.tb_tasks.specs.Tasks.{is_display, is_write, arguments_fit}
use Rattle.tb_faults.specs.declared.fault.BenchFault.{BenchFault}
use Rattle.tb_faults.specs.declared.fault.BenchFault.TheVariants.{Wrong, Unsupported}
use Rattle.tb_checks.specs.Expressions.{own_faults, case_faults, sides_faults}
use Rattle.tb_checks.specs.Lefts.{part_faults}

-- On what the faults of statements rest: the names that they see, the name of the clock where there is a clock generator, and
-- whether they may wait.
pub record Rules : Type 0 where
  pub names : Names
  pub clock : Option (List ℕ)
  pub may_wait : Bool

-- a condition, a count or an argument
abbrev pub test_faults : Names → Expr → List BenchFault
test_faults names x = map Wrong (own_faults names x)

-- an assignment: both sides, and the names that it writes
abbrev pub assignment_faults : Rules → Assignment → List BenchFault
assignment_faults r x = map Wrong (sides_faults r.names (same_form x.left) x.value) ++ flat_map (part_faults r.names r.clock) (parts_of x.left)

-- Waits, each refused at its `@`.

abbrev pub has_edge : EventExpression → Bool
has_edge x = is_edge x.edge

-- one edge of the clock; where there is no clock, names alone or at most two edges
abbrev pub are_events : Option (List ℕ) → List EventExpression → Bool
are_events (Some clock) (x ∷ []) = has_edge x && bytes_eq clock x.name.name
are_events (Some clock) other = false
are_events None events = not (list_any has_edge events) || (list_all has_edge events && nat_le (length events) 2)

abbrev pub is_event : Option (List ℕ) → EventControl → Bool
is_event clock (c.List events) = are_events clock events
is_event None c.Implicit = true
is_event (Some clock) c.Implicit = false

abbrev pub event_name : Identifier → Option Decl → List BenchFault
event_name n None = Wrong (fault Unknown n.span) ∷ []
event_name n (Some decl) = []

abbrev pub event_faults : Names → EventExpression → List BenchFault
event_faults names x = event_name x.name (names x.name.name)

abbrev pub control_names : Names → EventControl → List BenchFault
control_names names c.Implicit = []
control_names names (c.List events) = flat_map (event_faults names) events

-- a list that is supported, where it may stand
abbrev pub control_faults : Names → Option (List ℕ) → (may_stand : Bool) → Span → EventControl → List BenchFault
control_faults names clock may_stand at control = (if may_stand && is_event clock control then [] else Unsupported at f.ClockList ∷ []) ++ control_names names control

-- System tasks. What `$dumpfile` and `$dumpvars` are given is not looked at. A format is refused at its string.

abbrev pub is_dump : List ℕ → Bool
is_dump name = bytes_eq name (codes "$dumpfile") || bytes_eq name (codes "$dumpvars")

abbrev pub is_print : List ℕ → Bool
is_print name = is_display name || is_write name

abbrev pub is_finish : List ℕ → Bool
is_finish name = bytes_eq name (codes "$finish")

abbrev pub argument_faults : Names → Argument → List BenchFault
argument_faults names (a.String text at) = []
argument_faults names (a.Expr x) = test_faults names x

abbrev pub format_faults : (fits : Bool) → List Argument → List BenchFault
format_faults false (a.String text at ∷ more) = Unsupported at f.FormatText ∷ []
format_faults fits arguments = []

abbrev pub arguments_faults : Names → List Argument → List BenchFault
arguments_faults names arguments = flat_map (argument_faults names) arguments

-- a task that neither prints nor writes a dump
abbrev pub other_task : Identifier → List BenchFault
other_task n = if is_finish n.name then [] else Unsupported n.span f.SystemTask ∷ []

abbrev pub task_faults : Names → Identifier → List Argument → List BenchFault
task_faults names n arguments =
    if is_print n.name then format_faults (arguments_fit arguments) arguments ++ arguments_faults names arguments
    else (if is_dump n.name then [] else other_task n ++ arguments_faults names arguments)

-- Statements.

abbrev pub all_faults : List (List BenchFault) → List BenchFault
all_faults [] = []
all_faults (x ∷ more) = x ++ all_faults more

abbrev pub else_faults : Option (List BenchFault) → List BenchFault
else_faults None = []
else_faults (Some x) = x

-- an item of a case: its labels, and what is wrong in its statement
pub record ItemFaults : Type 0 where
  pub labels : List Expr
  pub body : List BenchFault

abbrev pub all_labels : List ItemFaults → List Expr
all_labels [] = []
all_labels (i ∷ more) = i.labels ++ all_labels more

abbrev pub all_bodies : List ItemFaults → List BenchFault
all_bodies [] = []
all_bodies (i ∷ more) = i.body ++ all_bodies more

abbrev pub stmt_step : Rules → Stmt-F (List BenchFault) ItemFaults → List BenchFault
stmt_step r (s.Null at) = []
stmt_step r (s.SeqBlock at label body) = all_faults body
stmt_step r (s.Conditional at condition first second) = test_faults r.names condition ++ (first ++ else_faults second)
stmt_step r (s.Case at kind selector items) = map Wrong (case_faults r.names (selector ∷ all_labels items)) ++ all_bodies items
stmt_step r (s.For at start condition step body) = assignment_faults r start ++ (test_faults r.names condition ++ (assignment_faults r step ++ body))
stmt_step r (s.While at condition body) = test_faults r.names condition ++ body
stmt_step r (s.Repeat at count body) = test_faults r.names count ++ body
stmt_step r (s.Forever at body) = body
stmt_step r (s.EventControl at control body) = control_faults r.names r.clock r.may_wait at control ++ body
stmt_step r (s.DelayControl at delay body) = Unsupported at f.Delay ∷ body
stmt_step r (s.SystemTaskEnable n arguments) = task_faults r.names n arguments
stmt_step r (s.BlockingAssignment x) = assignment_faults r x
stmt_step r (s.NonblockingAssignment x) = assignment_faults r x

abbrev pub item_step : CaseItem-F (List BenchFault) ItemFaults → ItemFaults
item_step i = record { labels = i.labels; body = i.body }

abbrev pub stmt_faults : Rules → Stmt → List BenchFault
stmt_faults r = fold-Stmt (List BenchFault) ItemFaults (stmt_step r) item_step

-- For proofs alone.

abbrev pub item_faults : Rules → CaseItem → ItemFaults
item_faults r = fold-CaseItem (List BenchFault) ItemFaults (stmt_step r) item_step
