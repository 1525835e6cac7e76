-- The clock generators of a testbench: `initial begin C = k; forever #n C = ~C; end`, where k is a constant, and `always #n C = ~C;`.
-- In both `!` may stand for `~`, and `(C)` for the C behind it; `C <= k` may stand for `C = k`.
use Rattle.std.specs.Prelude.{ℕ, Bool, true, false, ◌&&◌, List, [], ◌∷◌, Option, None, Some, if◌then◌else◌}
use Rattle.std.specs.Str.{bytes_eq}
use Rattle.vlog_syntax.specs.declared.expr.Expr.{Expr, out-Expr}
use Rattle.vlog_syntax.specs.declared.expr.Expr.TheOpen as e
use Rattle.vlog_syntax.specs.declared.expr.Expr.TheOpen.{Expr-F}
use Rattle.vlog_syntax.specs.declared.expr.Expr.TheFolds.{fold-Expr}
use Rattle.vlog_syntax.specs.declared.identifier.Identifier.{Identifier}
use Rattle.vlog_syntax.specs.declared.item.Process.{Process}
use Rattle.vlog_syntax.specs.declared.item.ProcessKind.{ProcessKind}
use Rattle.vlog_syntax.specs.declared.item.ProcessKind.TheVariants as p
use Rattle.vlog_syntax.specs.declared.left_side.LeftSide.{LeftSide, out-LeftSide}
use Rattle.vlog_syntax.specs.declared.left_side.LeftSide.TheOpen as l
use Rattle.vlog_syntax.specs.declared.left_side.LeftSide.TheOpen.{LeftSide-F}
use Rattle.vlog_syntax.specs.declared.operator.UnaryOperator.{UnaryOperator}
use Rattle.vlog_syntax.specs.declared.operator.UnaryOperator.TheVariants.{LogicalNot, BitwiseNot}
use Rattle.vlog_syntax.specs.declared.stmt.CaseItem.{CaseItem}
use Rattle.vlog_syntax.specs.declared.stmt.Stmt.{Stmt, out-Stmt}
use Rattle.vlog_syntax.specs.declared.stmt.Stmt.TheOpen as s
use Rattle.vlog_syntax.specs.declared.stmt.Stmt.TheOpen.{Stmt-F}
use Rattle.vlog_meaning.specs.Scopes.{Names}
use Rattle.vlog_meaning.specs.Answers.{least}
use Rattle.vlog_meaning.specs.declared.fault.Fault.{Fault}
use Rattle.vlog_meaning.specs.Senses.{sense, constant_faults}
use Rattle.tb_items.specs.declared.generator.Generator.{Generator}
use Rattle.tb_items.specs.declared.generator.Inversion.{Inversion}
use Rattle.tb_items.specs.declared.generator.Inversion.TheVariants.{Bits, Truth}
use Rattle.tb_items.specs.declared.generator.Toggle.{Toggle}

-- `C = ~C;` behind a delay

abbrev pub inversion_of : UnaryOperator → Option Inversion
inversion_of BitwiseNot = Some Bits
inversion_of LogicalNot = Some Truth
inversion_of other = None

-- the name that an expression is, in parentheses or not

abbrev pub name_step : Expr-F (Option Identifier) → Option Identifier
name_step (e.Name n) = Some n
name_step (e.Parenthesized at inner) = inner
name_step other = None

abbrev pub name_in : Expr → Option Identifier
name_in = fold-Expr (Option Identifier) name_step

abbrev pub is_named : List ℕ → Option Identifier → Bool
is_named name None = false
is_named name (Some n) = bytes_eq name n.name

abbrev pub same_name : Expr → Identifier → Option Inversion → Option Identifier → Option Toggle
same_name delay c None operand = None
same_name delay c (Some i) operand = if is_named c.name operand then Some (record { clock = c; delay = delay; inversion = i }) else None

abbrev pub inverted : Expr → Identifier → Expr-F Expr → Option Toggle
inverted delay c (e.Unary at operator operand) = same_name delay c (inversion_of operator) (name_in operand)
inverted delay c other = None

abbrev pub toggled : Expr → LeftSide-F LeftSide → Expr → Option Toggle
toggled delay (l.Name c) value = inverted delay c (out-Expr value)
toggled delay other value = None

abbrev pub delayed : Expr → Stmt-F Stmt CaseItem → Option Toggle
delayed delay (s.BlockingAssignment a) = toggled delay (out-LeftSide a.left) a.value
delayed delay other = None

-- `#n C = ~C;`
abbrev pub toggle_in : Stmt-F Stmt CaseItem → Option Toggle
toggle_in (s.DelayControl at delay body) = delayed delay (out-Stmt body)
toggle_in other = None

-- `always #n C = ~C;`
abbrev pub always_generator : Option Toggle → Option Generator
always_generator None = None
always_generator (Some t) = Some (record { clock = t.clock; first = None; delay = t.delay; inversion = t.inversion })

-- `C = k; forever #n C = ~C;`

abbrev pub is_none : Option Fault → Bool
is_none None = true
is_none (Some f) = false

abbrev pub is_constant : Names → Expr → Bool
is_constant names x = is_none (least (constant_faults (sense names x)))

abbrev pub begun : Names → LeftSide-F LeftSide → Expr → Option Toggle → Option Generator
begun names (l.Name c) k (Some t) = if bytes_eq c.name t.clock.name && is_constant names k then Some (record { clock = c; first = Some k; delay = t.delay; inversion = t.inversion }) else None
begun names other k toggle = None

abbrev pub forever : Stmt-F Stmt CaseItem → Option Toggle
forever (s.Forever at body) = toggle_in (out-Stmt body)
forever other = None

abbrev pub pair_generator : Names → Stmt-F Stmt CaseItem → Stmt-F Stmt CaseItem → Option Generator
pair_generator names (s.BlockingAssignment a) second = begun names (out-LeftSide a.left) a.value (forever second)
pair_generator names (s.NonblockingAssignment a) second = begun names (out-LeftSide a.left) a.value (forever second)
pair_generator names other second = None

abbrev pub list_generator : Names → List Stmt → Option Generator
list_generator names (first ∷ second ∷ []) = pair_generator names (out-Stmt first) (out-Stmt second)
list_generator names other = None

abbrev pub initial_generator : Names → Stmt-F Stmt CaseItem → Option Generator
initial_generator names (s.SeqBlock at name body) = list_generator names body
initial_generator names other = None

abbrev pub kind_generator : Names → ProcessKind → Stmt-F Stmt CaseItem → Option Generator
kind_generator names p.Always body = always_generator (toggle_in body)
kind_generator names p.Initial body = initial_generator names body

-- the clock generator that a process is, if it is one
abbrev pub generator_of : Names → Process → Option Generator
generator_of names x = kind_generator names x.kind (out-Stmt x.body)
