-- How deep trees nest.
--
-- Constructs are the blocks of loop and conditional generate constructs, statements, and expressions, but for `;`, a
-- name, a number and a system function without arguments. A construct nests one deeper than the deepest of its parts;
-- what is no construct nests as deep as the deepest of its parts.
use Rattle.std.specs.Prelude.{ℕ, ◌+◌, ◌-◌, max, List, [], ◌∷◌, map, Option, Some, None}
use Rattle.vlog_syntax.specs.declared.expr.Expr.{Expr}
use Rattle.vlog_syntax.specs.declared.expr.Expr.TheOpen as e
use Rattle.vlog_syntax.specs.declared.expr.Expr.TheOpen.{Expr-F}
use Rattle.vlog_syntax.specs.declared.expr.Expr.TheFolds.{fold-Expr}
use Rattle.vlog_syntax.specs.declared.left_side.LeftSide.{LeftSide}
use Rattle.vlog_syntax.specs.declared.left_side.LeftSide.TheOpen as l
use Rattle.vlog_syntax.specs.declared.left_side.LeftSide.TheOpen.{LeftSide-F}
use Rattle.vlog_syntax.specs.declared.left_side.LeftSide.TheFolds.{fold-LeftSide}
use Rattle.vlog_syntax.specs.declared.stmt.Argument.{Argument}
use Rattle.vlog_syntax.specs.declared.stmt.Argument.TheVariants as a
use Rattle.vlog_syntax.specs.declared.stmt.Assignment.{Assignment}
use Rattle.vlog_syntax.specs.declared.stmt.CaseItem.{CaseItem}
use Rattle.vlog_syntax.specs.declared.stmt.Stmt.{Stmt}
use Rattle.vlog_syntax.specs.declared.stmt.Stmt.TheOpen as s
use Rattle.vlog_syntax.specs.declared.stmt.Stmt.TheOpen.{Stmt-F, CaseItem-F}
use Rattle.vlog_syntax.specs.declared.stmt.Stmt.TheFolds.{fold-Stmt, fold-CaseItem}
use Rattle.vlog_syntax.specs.declared.item.Range.{Range}
use Rattle.vlog_syntax.specs.declared.item.DataType.{DataType}
use Rattle.vlog_syntax.specs.declared.item.DataType.TheVariants as d
use Rattle.vlog_syntax.specs.declared.item.DeclaredName.{DeclaredName}
use Rattle.vlog_syntax.specs.declared.item.PortDeclaration.{PortDeclaration}
use Rattle.vlog_syntax.specs.declared.item.DataDeclaration.{DataDeclaration}
use Rattle.vlog_syntax.specs.declared.item.ParameterType.{ParameterType}
use Rattle.vlog_syntax.specs.declared.item.ParameterType.TheVariants as p
use Rattle.vlog_syntax.specs.declared.item.ParameterDeclaration.{ParameterDeclaration}
use Rattle.vlog_syntax.specs.declared.item.Ports.{Ports}
use Rattle.vlog_syntax.specs.declared.item.Ports.TheVariants as o
use Rattle.vlog_syntax.specs.declared.item.NamedConnection.{NamedConnection}
use Rattle.vlog_syntax.specs.declared.item.Connections.{Connections}
use Rattle.vlog_syntax.specs.declared.item.Connections.TheVariants as c
use Rattle.vlog_syntax.specs.declared.item.ParameterValues.{ParameterValues}
use Rattle.vlog_syntax.specs.declared.item.ParameterValues.TheVariants as v
use Rattle.vlog_syntax.specs.declared.item.Instance.{Instance}
use Rattle.vlog_syntax.specs.declared.item.Delay.{Delay}
use Rattle.vlog_syntax.specs.declared.item.GenerateLoop.{GenerateLoop}
use Rattle.vlog_syntax.specs.declared.item.PlainItem.{PlainItem}
use Rattle.vlog_syntax.specs.declared.item.PlainItem.TheVariants as i
use Rattle.vlog_syntax.specs.declared.item.Item.{Item}
use Rattle.vlog_syntax.specs.declared.item.Item.TheOpen as g
use Rattle.vlog_syntax.specs.declared.item.Item.TheOpen.{Item-F}
use Rattle.vlog_syntax.specs.declared.item.Item.TheFolds.{fold-Item}
use Rattle.vlog_syntax.specs.declared.module.Module.{Module}

abbrev pub greatest : List ℕ → ℕ
greatest [] = 0
greatest (n ∷ ns) = max n (greatest ns)

-- Expressions

abbrev pub expr_nest_step : Expr-F ℕ → ℕ
expr_nest_step (e.Number n) = 0
expr_nest_step (e.Name n) = 0
expr_nest_step (e.BitSelect n at index) = index + 1
expr_nest_step (e.PartSelect n at msb lsb) = max msb lsb + 1
expr_nest_step (e.IndexedPartSelect n at base width) = max base width + 1
expr_nest_step (e.Parenthesized at inner) = inner + 1
expr_nest_step (e.Unary at operator operand) = operand + 1
expr_nest_step (e.Binary at operator left right) = max left right + 1
expr_nest_step (e.Conditional at condition first second) = max condition (max first second) + 1
expr_nest_step (e.Concatenation at parts) = greatest parts + 1
expr_nest_step (e.MultipleConcatenation at count parts) = max count (greatest parts) + 1
expr_nest_step (e.SystemFunctionCall n []) = 0
expr_nest_step (e.SystemFunctionCall n (x ∷ more)) = max x (greatest more) + 1

abbrev pub expr_nest : Expr → ℕ
expr_nest = fold-Expr ℕ expr_nest_step

abbrev pub part_nest : Option Expr → ℕ
part_nest None = 0
part_nest (Some x) = expr_nest x

-- Left sides

abbrev pub left_nest_step : LeftSide-F ℕ → ℕ
left_nest_step (l.Name n) = 0
left_nest_step (l.BitSelect n at index) = expr_nest index + 1
left_nest_step (l.PartSelect n at msb lsb) = max (expr_nest msb) (expr_nest lsb) + 1
left_nest_step (l.IndexedPartSelect n at base width) = max (expr_nest base) (expr_nest width) + 1
left_nest_step (l.Concatenation at parts) = greatest parts + 1

abbrev pub left_nest : LeftSide → ℕ
left_nest = fold-LeftSide ℕ left_nest_step

-- Statements

abbrev pub assignment_nest : Assignment → ℕ
assignment_nest x = max (left_nest x.left) (expr_nest x.value)

abbrev pub argument_nest : Argument → ℕ
argument_nest (a.String text at) = 0
argument_nest (a.Expr x) = expr_nest x

abbrev pub else_nest : Option ℕ → ℕ
else_nest None = 0
else_nest (Some n) = n

abbrev pub stmt_nest_step : Stmt-F ℕ ℕ → ℕ
stmt_nest_step (s.Null at) = 0
stmt_nest_step (s.SeqBlock at name body) = greatest body + 1
stmt_nest_step (s.Conditional at condition first second) = max (expr_nest condition) (max first (else_nest second)) + 1
stmt_nest_step (s.Case at kind selector items) = max (expr_nest selector) (greatest items) + 1
stmt_nest_step (s.For at start condition step body) = max (assignment_nest start) (max (expr_nest condition) (max (assignment_nest step) body)) + 1
stmt_nest_step (s.While at condition body) = max (expr_nest condition) body + 1
stmt_nest_step (s.Repeat at count body) = max (expr_nest count) body + 1
stmt_nest_step (s.Forever at body) = body + 1
stmt_nest_step (s.EventControl at control body) = body + 1
stmt_nest_step (s.DelayControl at delay body) = max (expr_nest delay) body + 1
stmt_nest_step (s.SystemTaskEnable n arguments) = greatest (map argument_nest arguments) + 1
stmt_nest_step (s.BlockingAssignment x) = assignment_nest x + 1
stmt_nest_step (s.NonblockingAssignment x) = assignment_nest x + 1

abbrev pub case_item_nest_step : CaseItem-F ℕ ℕ → ℕ
case_item_nest_step x = max (greatest (map expr_nest x.labels)) x.body

abbrev pub stmt_nest : Stmt → ℕ
stmt_nest = fold-Stmt ℕ ℕ stmt_nest_step case_item_nest_step

-- Declarations and the other items without blocks

abbrev pub range_nest : Option Range → ℕ
range_nest None = 0
range_nest (Some x) = max (expr_nest x.msb) (expr_nest x.lsb)

abbrev pub data_type_nest : DataType → ℕ
data_type_nest (d.Wire x) = range_nest x.range
data_type_nest (d.Reg x) = range_nest x.range
data_type_nest d.Integer = 0

abbrev pub names_nest : List DeclaredName → ℕ
names_nest names = greatest (map (λ x. part_nest x.initial) names)

abbrev pub port_nest : PortDeclaration → ℕ
port_nest x = max (data_type_nest x.data_type) (names_nest x.names)

abbrev pub data_nest : DataDeclaration → ℕ
data_nest x = max (data_type_nest x.data_type) (names_nest x.names)

abbrev pub parameter_type_nest : ParameterType → ℕ
parameter_type_nest (p.Vector x) = range_nest x.range
parameter_type_nest p.Integer = 0

abbrev pub parameter_nest : ParameterDeclaration → ℕ
parameter_nest x = max (parameter_type_nest x.data_type) (greatest (map (λ y. expr_nest y.value) x.assignments))

abbrev pub delay_nest : Option Delay → ℕ
delay_nest None = 0
delay_nest (Some x) = expr_nest x.value

abbrev pub named_nest : List NamedConnection → ℕ
named_nest connections = greatest (map (λ x. part_nest x.value) connections)

abbrev pub connections_nest : Connections → ℕ
connections_nest (c.Ordered parts) = greatest (map part_nest parts)
connections_nest (c.Named connections) = named_nest connections

abbrev pub parameter_values_nest : ParameterValues → ℕ
parameter_values_nest (v.Ordered values) = greatest (map expr_nest values)
parameter_values_nest (v.Named values) = named_nest values

abbrev pub plain_nest : PlainItem → ℕ
plain_nest (i.PortDeclaration x) = port_nest x
plain_nest (i.DataDeclaration x) = data_nest x
plain_nest (i.GenvarDeclaration at names) = names_nest names
plain_nest (i.ParameterDeclaration x) = parameter_nest x
plain_nest (i.ContinuousAssign at delay assignments) = max (delay_nest delay) (greatest (map assignment_nest assignments))
plain_nest (i.Process x) = stmt_nest x.body
plain_nest (i.ModuleInstantiation n values instances) = max (parameter_values_nest values) (greatest (map (λ (x : Instance). connections_nest x.ports) instances))

-- Generate constructs

abbrev pub loop_nest : GenerateLoop → ℕ
loop_nest x = max (expr_nest x.start) (max (expr_nest x.condition) (expr_nest x.step))

-- An item is a construct where it is the block of a loop or a condition. Among other items it is none, and nests one
-- less deep than as a block.
abbrev pub among : ℕ → ℕ
among as_block = as_block - 1

-- how deep an item nests as a block, from the same of the items in it
abbrev pub block_nest_step : Item-F ℕ → ℕ
block_nest_step (g.Plain x) = plain_nest x + 1
block_nest_step (g.GenerateRegion at items) = greatest (map among items) + 1
block_nest_step (g.LoopGenerate loop block) = max (loop_nest loop) block + 1
block_nest_step (g.IfGenerate at condition first second) = max (expr_nest condition) (max first (else_nest second)) + 1
block_nest_step (g.GenerateBlock at name items) = greatest (map among items) + 1
block_nest_step (g.NullGenerate at) = 0

abbrev pub block_nest : Item → ℕ
block_nest = fold-Item ℕ block_nest_step

abbrev pub item_nest : Item → ℕ
item_nest x = among (block_nest x)

-- Modules

abbrev pub ports_nest : Ports → ℕ
ports_nest (o.Names names) = 0
ports_nest (o.Declarations declarations) = greatest (map port_nest declarations)

abbrev pub module_nest : Module → ℕ
module_nest x = max (greatest (map parameter_nest x.parameters)) (max (ports_nest x.ports) (greatest (map item_nest x.items)))

-- For proofs alone.

abbrev pub case_item_nest : CaseItem → ℕ
case_item_nest = fold-CaseItem ℕ ℕ stmt_nest_step case_item_nest_step
