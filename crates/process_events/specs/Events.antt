-- Lists of events (IEEE 1364-2005, 9.7): a process is combinational, or clocked by the rising edge of one name.
use Rattle.std.specs.Prelude.{ℕ, Bool, true, false, ◌&&◌, ◌||◌, List, [], ◌∷◌, Option, Some, None, if◌then◌else◌}
use Rattle.std.specs.Str.{bytes_eq}
use Rattle.mcy_base.specs.declared.span.Span.{Span}
use Rattle.vlog_syntax.specs.declared.operator.UnaryOperator.{UnaryOperator}
use Rattle.vlog_syntax.specs.declared.operator.UnaryOperator.TheVariants as o
use Rattle.vlog_syntax.specs.declared.expr.Expr.{Expr, out-Expr}
use Rattle.vlog_syntax.specs.declared.expr.Expr.TheOpen as e
use Rattle.vlog_syntax.specs.declared.expr.Expr.TheOpen.{Expr-F}
use Rattle.vlog_syntax.specs.declared.left_side.LeftSide.{LeftSide, out-LeftSide}
use Rattle.vlog_syntax.specs.declared.left_side.LeftSide.TheOpen as l
use Rattle.vlog_syntax.specs.declared.left_side.LeftSide.TheOpen.{LeftSide-F}
use Rattle.vlog_syntax.specs.declared.stmt.CaseItem.{CaseItem}
use Rattle.vlog_syntax.specs.declared.feature.Feature.{Feature}
use Rattle.vlog_syntax.specs.declared.feature.Feature.TheVariants as f
use Rattle.vlog_syntax.specs.declared.identifier.Identifier.{Identifier}
use Rattle.vlog_syntax.specs.declared.item.Process.{Process}
use Rattle.vlog_syntax.specs.declared.item.ProcessKind.{ProcessKind}
use Rattle.vlog_syntax.specs.declared.item.ProcessKind.TheVariants as k
use Rattle.vlog_syntax.specs.declared.stmt.Edge.{Edge}
use Rattle.vlog_syntax.specs.declared.stmt.Edge.TheVariants as edge
use Rattle.vlog_syntax.specs.declared.stmt.EventExpression.{EventExpression}
use Rattle.vlog_syntax.specs.declared.stmt.EventControl.{EventControl}
use Rattle.vlog_syntax.specs.declared.stmt.EventControl.TheVariants as c
use Rattle.vlog_syntax.specs.declared.stmt.Stmt.{Stmt, out-Stmt}
use Rattle.vlog_syntax.specs.declared.stmt.Stmt.TheOpen as s
use Rattle.vlog_syntax.specs.declared.stmt.Stmt.TheOpen.{Stmt-F}
use Rattle.process_events.specs.declared.sensitivity.Sensitivity.{Sensitivity as Answer}
use Rattle.process_events.specs.declared.sensitivity.Sensitivity.TheVariants as answer
use Rattle.process_events.specs.Naming.{stmt_reads}

-- when a process runs: once, at each change of what it reads, at each rising edge of a name; or it is refused at a place
pub data Sensitivity : Type 0 where
  Once : Sensitivity
  Combinational : Sensitivity
  Clocked : Identifier → Sensitivity
  Refused : Span → Feature → Sensitivity

abbrev pub is_edge : Edge → Bool
is_edge edge.Any = false
is_edge edge.Posedge = true
is_edge edge.Negedge = true

abbrev pub any_edge : List EventExpression → Bool
any_edge [] = false
any_edge (x ∷ more) = is_edge x.edge || any_edge more

-- an event is the clock where it is a rising edge
abbrev pub risen : Span → Feature → Identifier → Edge → Sensitivity
risen at feature n edge.Posedge = Clocked n
risen at feature n other = Refused at feature

-- of two edges the clock is the one whose name the body does not read
abbrev pub of_two : Span → EventExpression → EventExpression → (first_read second_read : Bool) → Sensitivity
of_two at x y false true = risen at f.ClockList x.name x.edge
of_two at x y true false = risen at f.ClockList y.name y.edge
of_two at x y first_read second_read = Refused at f.ClockList

-- a list in which there is an edge
abbrev pub of_edges : Span → List EventExpression → Stmt → Sensitivity
of_edges at (x ∷ []) body = risen at f.FallingClock x.name x.edge
of_edges at (x ∷ y ∷ []) body = if is_edge x.edge && is_edge y.edge then of_two at x y (stmt_reads x.name.name body) (stmt_reads y.name.name body) else Refused at f.ClockList
of_edges at other body = Refused at f.ClockList

abbrev pub of_control : Span → EventControl → Stmt → Sensitivity
of_control at c.Implicit body = Combinational
of_control at (c.List events) body = if any_edge events then of_edges at events body else Combinational

abbrev pub is_inversion : UnaryOperator → Bool
is_inversion o.LogicalNot = true
is_inversion o.BitwiseNot = true
is_inversion other = false

abbrev pub is_name : List ℕ → Expr-F Expr → Bool
is_name name (e.Name n) = bytes_eq name n.name
is_name name other = false

abbrev pub is_inverted : List ℕ → Expr-F Expr → Bool
is_inverted name (e.Unary at operator operand) = is_inversion operator && is_name name (out-Expr operand)
is_inverted name other = false

abbrev pub is_toggled : LeftSide-F LeftSide → Expr → Bool
is_toggled (l.Name n) value = is_inverted n.name (out-Expr value)
is_toggled other value = false

-- `C = ~C;` or `C = !C;`, as after the delay of a clock generator
abbrev pub is_toggle : Stmt-F Stmt CaseItem → Bool
is_toggle (s.BlockingAssignment x) = is_toggled (out-LeftSide x.left) x.value
is_toggle other = false

-- The body of an `always` waits for events, at its `@`. A clock generator is refused for its delay.
abbrev pub of_always : Span → Stmt-F Stmt CaseItem → Sensitivity
of_always always (s.EventControl at control body) = of_control at control body
of_always always (s.DelayControl at delay body) = if is_toggle (out-Stmt body) then Refused at f.Delay else Refused always f.ClockList
of_always always other = Refused always f.ClockList

abbrev pub of_kind : ProcessKind → Process → Sensitivity
of_kind k.Initial p = Once
of_kind k.Always p = of_always p.span (out-Stmt p.body)

abbrev pub sensitivity : Process → Sensitivity
sensitivity p = of_kind p.kind p

-- the name of the clock of a process, where it has one
abbrev pub clock_in : Sensitivity → Option Identifier
clock_in (Clocked n) = Some n
clock_in other = None

-- an answer, with the clock itself
abbrev pub said : Answer → Sensitivity
said answer.Once = Once
said answer.Combinational = Combinational
said (answer.Clocked n) = Clocked n.now
said (answer.Refused at feature) = Refused at feature
