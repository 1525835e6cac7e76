-- Which names statements read (IEEE 1364-2005, 9.7.5): those in their expressions, and in the selects of left sides.
use Rattle.std.specs.Prelude.{ℕ, Bool, false, ◌||◌, List, [], ◌∷◌, map, Option, Some, None}
use Rattle.std.specs.Str.{bytes_eq}
use Rattle.vlog_syntax.specs.declared.identifier.Identifier.{Identifier}
use Rattle.vlog_syntax.specs.declared.expr.Expr.{Expr}
use Rattle.vlog_syntax.specs.declared.expr.Expr.TheOpen as e
use Rattle.vlog_syntax.specs.declared.expr.Expr.TheOpen.{Expr-F}
use Rattle.vlog_syntax.specs.declared.expr.Expr.TheFolds.{fold-Expr}
use Rattle.vlog_syntax.specs.declared.left_side.LeftSide.{LeftSide}
use Rattle.vlog_syntax.specs.declared.left_side.LeftSide.TheOpen as l
use Rattle.vlog_syntax.specs.declared.left_side.LeftSide.TheOpen.{LeftSide-F}
use Rattle.vlog_syntax.specs.declared.left_side.LeftSide.TheFolds.{fold-LeftSide}
use Rattle.vlog_syntax.specs.declared.stmt.Argument.{Argument}
use Rattle.vlog_syntax.specs.declared.stmt.Argument.TheVariants as a
use Rattle.vlog_syntax.specs.declared.stmt.Assignment.{Assignment}
use Rattle.vlog_syntax.specs.declared.stmt.CaseItem.{CaseItem}
use Rattle.vlog_syntax.specs.declared.stmt.Stmt.{Stmt}
use Rattle.vlog_syntax.specs.declared.stmt.Stmt.TheOpen as s
use Rattle.vlog_syntax.specs.declared.stmt.Stmt.TheOpen.{Stmt-F, CaseItem-F}
use Rattle.vlog_syntax.specs.declared.stmt.Stmt.TheFolds.{fold-Stmt, fold-CaseItem}

abbrev pub any_of : List Bool → Bool
any_of [] = false
any_of (b ∷ more) = b || any_of more

abbrev pub is_named : List ℕ → Identifier → Bool
is_named name n = bytes_eq name n.name

abbrev pub expr_step : List ℕ → Expr-F Bool → Bool
expr_step name (e.Number n) = false
expr_step name (e.Name n) = is_named name n
expr_step name (e.BitSelect n at index) = is_named name n || index
expr_step name (e.PartSelect n at msb lsb) = is_named name n || (msb || lsb)
expr_step name (e.IndexedPartSelect n at base width) = is_named name n || (base || width)
expr_step name (e.Parenthesized at inner) = inner
expr_step name (e.Unary at operator operand) = operand
expr_step name (e.Binary at operator left right) = left || right
expr_step name (e.Conditional at condition first second) = condition || (first || second)
expr_step name (e.Concatenation at parts) = any_of parts
expr_step name (e.MultipleConcatenation at count parts) = count || any_of parts
expr_step name (e.SystemFunctionCall n arguments) = any_of arguments

-- an expression reads the name
abbrev pub expr_reads : List ℕ → Expr → Bool
expr_reads name = fold-Expr Bool (expr_step name)

abbrev pub left_step : List ℕ → LeftSide-F Bool → Bool
left_step name (l.Name n) = false
left_step name (l.BitSelect n at index) = expr_reads name index
left_step name (l.PartSelect n at msb lsb) = expr_reads name msb || expr_reads name lsb
left_step name (l.IndexedPartSelect n at base width) = expr_reads name base || expr_reads name width
left_step name (l.Concatenation at parts) = any_of parts

-- a select of a left side reads it
abbrev pub left_reads : List ℕ → LeftSide → Bool
left_reads name = fold-LeftSide Bool (left_step name)

abbrev pub assignment_reads : List ℕ → Assignment → Bool
assignment_reads name x = left_reads name x.left || expr_reads name x.value

abbrev pub argument_reads : List ℕ → Argument → Bool
argument_reads name (a.String text at) = false
argument_reads name (a.Expr x) = expr_reads name x

abbrev pub else_reads : Option Bool → Bool
else_reads None = false
else_reads (Some b) = b

abbrev pub stmt_step : List ℕ → Stmt-F Bool Bool → Bool
stmt_step name (s.Null at) = false
stmt_step name (s.SeqBlock at label body) = any_of body
stmt_step name (s.Conditional at condition first second) = expr_reads name condition || (first || else_reads second)
stmt_step name (s.Case at kind selector items) = expr_reads name selector || any_of items
stmt_step name (s.For at start condition step body) = assignment_reads name start || (expr_reads name condition || (assignment_reads name step || body))
stmt_step name (s.While at condition body) = expr_reads name condition || body
stmt_step name (s.Repeat at count body) = expr_reads name count || body
stmt_step name (s.Forever at body) = body
stmt_step name (s.EventControl at control body) = body
stmt_step name (s.DelayControl at delay body) = expr_reads name delay || body
stmt_step name (s.SystemTaskEnable n arguments) = any_of (map (argument_reads name) arguments)
stmt_step name (s.BlockingAssignment x) = assignment_reads name x
stmt_step name (s.NonblockingAssignment x) = assignment_reads name x

abbrev pub item_step : List ℕ → CaseItem-F Bool Bool → Bool
item_step name i = any_of (map (expr_reads name) i.labels) || i.body

-- a statement reads it
abbrev pub stmt_reads : List ℕ → Stmt → Bool
stmt_reads name = fold-Stmt Bool Bool (stmt_step name) (item_step name)

-- For proofs alone.

abbrev pub item_reads : List ℕ → CaseItem → Bool
item_reads name = fold-CaseItem Bool Bool (stmt_step name) (item_step name)
