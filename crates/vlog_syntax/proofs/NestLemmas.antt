-- How deep a tree nests, by its variant.
use Rattle.std.proofs.Common.{◌≡◌, ℕ, ◌+◌, max, List, [], ◌∷◌, map, Option, Some, None, sym, ◌∙◌, ap}
use Rattle.mcy_base.specs.declared.span.Span.{Span}
use Rattle.vlog_syntax.specs.declared.identifier.Identifier.{Identifier}
use Rattle.vlog_syntax.specs.declared.identifier.Number.{Number}
use Rattle.vlog_syntax.specs.declared.operator.UnaryOperator.{UnaryOperator}
use Rattle.vlog_syntax.specs.declared.operator.BinaryOperator.{BinaryOperator}
use Rattle.vlog_syntax.specs.declared.expr.Expr.{Expr}
use Rattle.vlog_syntax.specs.declared.expr.Expr.TheVariants as ev
use Rattle.vlog_syntax.specs.declared.expr.Expr.TheOpen as e
use Rattle.vlog_syntax.specs.declared.expr.Expr.TheFolds.{fold-roll-Expr}
use Rattle.vlog_syntax.specs.declared.left_side.LeftSide.{LeftSide}
use Rattle.vlog_syntax.specs.declared.left_side.LeftSide.TheVariants as lv
use Rattle.vlog_syntax.specs.declared.left_side.LeftSide.TheOpen as l
use Rattle.vlog_syntax.specs.declared.left_side.LeftSide.TheFolds.{fold-roll-LeftSide}
use Rattle.vlog_syntax.specs.declared.stmt.Assignment.{Assignment}
use Rattle.vlog_syntax.specs.declared.stmt.Argument.{Argument}
use Rattle.vlog_syntax.specs.declared.stmt.CaseKind.{CaseKind}
use Rattle.vlog_syntax.specs.declared.stmt.CaseItem.{CaseItem}
use Rattle.vlog_syntax.specs.declared.stmt.EventControl.{EventControl}
use Rattle.vlog_syntax.specs.declared.stmt.Stmt.{Stmt}
use Rattle.vlog_syntax.specs.declared.stmt.Stmt.TheVariants as sv
use Rattle.vlog_syntax.specs.declared.stmt.Stmt.TheOpen as s
use Rattle.vlog_syntax.specs.declared.stmt.Stmt.TheFolds.{fold-roll-Stmt}
use Rattle.vlog_syntax.specs.declared.item.GenerateLoop.{GenerateLoop}
use Rattle.vlog_syntax.specs.declared.item.PlainItem.{PlainItem}
use Rattle.vlog_syntax.specs.declared.item.Item.{Item}
use Rattle.vlog_syntax.specs.declared.item.Item.TheVariants as gv
use Rattle.vlog_syntax.specs.declared.item.Item.TheOpen as g
use Rattle.vlog_syntax.specs.declared.item.Item.TheFolds.{fold-roll-Item}
use Rattle.vlog_syntax.specs.Nesting.{greatest, expr_nest_step, expr_nest, left_nest_step, left_nest, assignment_nest, argument_nest, stmt_nest_step, case_item_nest_step, stmt_nest, case_item_nest, plain_nest, loop_nest, among, block_nest_step, block_nest}

pub expr_nest-number : (n : Number) → expr_nest (ev.Number n) ≡ 0
expr_nest-number n = ap expr_nest (sym (ev.rolls-Number n)) ∙ fold-roll-Expr ℕ expr_nest_step (e.Number n)

pub expr_nest-name : (n : Identifier) → expr_nest (ev.Name n) ≡ 0
expr_nest-name n = ap expr_nest (sym (ev.rolls-Name n)) ∙ fold-roll-Expr ℕ expr_nest_step (e.Name n)

pub expr_nest-bit_select : (n : Identifier) (at : Span) (index : Expr) → expr_nest (ev.BitSelect n at index) ≡ expr_nest index + 1
expr_nest-bit_select n at index = ap expr_nest (sym (ev.rolls-BitSelect n at index)) ∙ fold-roll-Expr ℕ expr_nest_step (e.BitSelect n at index)

pub expr_nest-part_select : (n : Identifier) (at : Span) (msb lsb : Expr) → expr_nest (ev.PartSelect n at msb lsb) ≡ max (expr_nest msb) (expr_nest lsb) + 1
expr_nest-part_select n at msb lsb = ap expr_nest (sym (ev.rolls-PartSelect n at msb lsb)) ∙ fold-roll-Expr ℕ expr_nest_step (e.PartSelect n at msb lsb)

pub expr_nest-indexed : (n : Identifier) (at : Span) (base width : Expr) → expr_nest (ev.IndexedPartSelect n at base width) ≡ max (expr_nest base) (expr_nest width) + 1
expr_nest-indexed n at base width = ap expr_nest (sym (ev.rolls-IndexedPartSelect n at base width)) ∙ fold-roll-Expr ℕ expr_nest_step (e.IndexedPartSelect n at base width)

pub expr_nest-parenthesized : (at : Span) (inner : Expr) → expr_nest (ev.Parenthesized at inner) ≡ expr_nest inner + 1
expr_nest-parenthesized at inner = ap expr_nest (sym (ev.rolls-Parenthesized at inner)) ∙ fold-roll-Expr ℕ expr_nest_step (e.Parenthesized at inner)

pub expr_nest-unary : (at : Span) (operator : UnaryOperator) (operand : Expr) → expr_nest (ev.Unary at operator operand) ≡ expr_nest operand + 1
expr_nest-unary at operator operand = ap expr_nest (sym (ev.rolls-Unary at operator operand)) ∙ fold-roll-Expr ℕ expr_nest_step (e.Unary at operator operand)

pub expr_nest-binary : (at : Span) (operator : BinaryOperator) (left right : Expr) → expr_nest (ev.Binary at operator left right) ≡ max (expr_nest left) (expr_nest right) + 1
expr_nest-binary at operator left right = ap expr_nest (sym (ev.rolls-Binary at operator left right)) ∙ fold-roll-Expr ℕ expr_nest_step (e.Binary at operator left right)

pub expr_nest-conditional : (at : Span) (condition first second : Expr) → expr_nest (ev.Conditional at condition first second) ≡ max (expr_nest condition) (max (expr_nest first) (expr_nest second)) + 1
expr_nest-conditional at condition first second = ap expr_nest (sym (ev.rolls-Conditional at condition first second)) ∙ fold-roll-Expr ℕ expr_nest_step (e.Conditional at condition first second)

pub expr_nest-concatenation : (at : Span) (parts : List Expr) → expr_nest (ev.Concatenation at parts) ≡ greatest (map expr_nest parts) + 1
expr_nest-concatenation at parts = ap expr_nest (sym (ev.rolls-Concatenation at parts)) ∙ fold-roll-Expr ℕ expr_nest_step (e.Concatenation at parts)

pub expr_nest-replication : (at : Span) (count : Expr) (parts : List Expr) → expr_nest (ev.MultipleConcatenation at count parts) ≡ max (expr_nest count) (greatest (map expr_nest parts)) + 1
expr_nest-replication at count parts = ap expr_nest (sym (ev.rolls-MultipleConcatenation at count parts)) ∙ fold-roll-Expr ℕ expr_nest_step (e.MultipleConcatenation at count parts)

pub expr_nest-no_arguments : (n : Identifier) → expr_nest (ev.SystemFunctionCall n []) ≡ 0
expr_nest-no_arguments n = ap expr_nest (sym (ev.rolls-SystemFunctionCall n [])) ∙ fold-roll-Expr ℕ expr_nest_step (e.SystemFunctionCall n [])

pub expr_nest-arguments : (n : Identifier) (x : Expr) (more : List Expr) → expr_nest (ev.SystemFunctionCall n (x ∷ more)) ≡ greatest (map expr_nest (x ∷ more)) + 1
expr_nest-arguments n x more = ap expr_nest (sym (ev.rolls-SystemFunctionCall n (x ∷ more))) ∙ fold-roll-Expr ℕ expr_nest_step (e.SystemFunctionCall n (x ∷ more))

pub left_nest-name : (n : Identifier) → left_nest (lv.Name n) ≡ 0
left_nest-name n = ap left_nest (sym (lv.rolls-Name n)) ∙ fold-roll-LeftSide ℕ left_nest_step (l.Name n)

pub left_nest-bit_select : (n : Identifier) (at : Span) (index : Expr) → left_nest (lv.BitSelect n at index) ≡ expr_nest index + 1
left_nest-bit_select n at index = ap left_nest (sym (lv.rolls-BitSelect n at index)) ∙ fold-roll-LeftSide ℕ left_nest_step (l.BitSelect n at index)

pub left_nest-part_select : (n : Identifier) (at : Span) (msb lsb : Expr) → left_nest (lv.PartSelect n at msb lsb) ≡ max (expr_nest msb) (expr_nest lsb) + 1
left_nest-part_select n at msb lsb = ap left_nest (sym (lv.rolls-PartSelect n at msb lsb)) ∙ fold-roll-LeftSide ℕ left_nest_step (l.PartSelect n at msb lsb)

pub left_nest-indexed : (n : Identifier) (at : Span) (base width : Expr) → left_nest (lv.IndexedPartSelect n at base width) ≡ max (expr_nest base) (expr_nest width) + 1
left_nest-indexed n at base width = ap left_nest (sym (lv.rolls-IndexedPartSelect n at base width)) ∙ fold-roll-LeftSide ℕ left_nest_step (l.IndexedPartSelect n at base width)

pub left_nest-concatenation : (at : Span) (parts : List LeftSide) → left_nest (lv.Concatenation at parts) ≡ greatest (map left_nest parts) + 1
left_nest-concatenation at parts = ap left_nest (sym (lv.rolls-Concatenation at parts)) ∙ fold-roll-LeftSide ℕ left_nest_step (l.Concatenation at parts)

pub stmt_nest-null : (at : Span) → stmt_nest (sv.Null at) ≡ 0
stmt_nest-null at = ap stmt_nest (sym (sv.rolls-Null at)) ∙ fold-roll-Stmt ℕ ℕ stmt_nest_step case_item_nest_step (s.Null at)

pub stmt_nest-block : (at : Span) (name : Option Identifier) (body : List Stmt) → stmt_nest (sv.SeqBlock at name body) ≡ greatest (map stmt_nest body) + 1
stmt_nest-block at name body = ap stmt_nest (sym (sv.rolls-SeqBlock at name body)) ∙ fold-roll-Stmt ℕ ℕ stmt_nest_step case_item_nest_step (s.SeqBlock at name body)

pub stmt_nest-if : (at : Span) (condition : Expr) (first : Stmt) → stmt_nest (sv.Conditional at condition first None) ≡ max (expr_nest condition) (max (stmt_nest first) 0) + 1
stmt_nest-if at condition first = ap stmt_nest (sym (sv.rolls-Conditional at condition first None)) ∙ fold-roll-Stmt ℕ ℕ stmt_nest_step case_item_nest_step (s.Conditional at condition first None)

pub stmt_nest-if_else : (at : Span) (condition : Expr) (first second : Stmt) → stmt_nest (sv.Conditional at condition first (Some second)) ≡ max (expr_nest condition) (max (stmt_nest first) (stmt_nest second)) + 1
stmt_nest-if_else at condition first second = ap stmt_nest (sym (sv.rolls-Conditional at condition first (Some second))) ∙ fold-roll-Stmt ℕ ℕ stmt_nest_step case_item_nest_step (s.Conditional at condition first (Some second))

pub stmt_nest-case : (at : Span) (kind : CaseKind) (selector : Expr) (items : List CaseItem) → stmt_nest (sv.Case at kind selector items) ≡ max (expr_nest selector) (greatest (map case_item_nest items)) + 1
stmt_nest-case at kind selector items = ap stmt_nest (sym (sv.rolls-Case at kind selector items)) ∙ fold-roll-Stmt ℕ ℕ stmt_nest_step case_item_nest_step (s.Case at kind selector items)

pub stmt_nest-for : (at : Span) (start : Assignment) (condition : Expr) (step : Assignment) (body : Stmt) → stmt_nest (sv.For at start condition step body) ≡ max (assignment_nest start) (max (expr_nest condition) (max (assignment_nest step) (stmt_nest body))) + 1
stmt_nest-for at start condition step body = ap stmt_nest (sym (sv.rolls-For at start condition step body)) ∙ fold-roll-Stmt ℕ ℕ stmt_nest_step case_item_nest_step (s.For at start condition step body)

pub stmt_nest-while : (at : Span) (condition : Expr) (body : Stmt) → stmt_nest (sv.While at condition body) ≡ max (expr_nest condition) (stmt_nest body) + 1
stmt_nest-while at condition body = ap stmt_nest (sym (sv.rolls-While at condition body)) ∙ fold-roll-Stmt ℕ ℕ stmt_nest_step case_item_nest_step (s.While at condition body)

pub stmt_nest-repeat : (at : Span) (count : Expr) (body : Stmt) → stmt_nest (sv.Repeat at count body) ≡ max (expr_nest count) (stmt_nest body) + 1
stmt_nest-repeat at count body = ap stmt_nest (sym (sv.rolls-Repeat at count body)) ∙ fold-roll-Stmt ℕ ℕ stmt_nest_step case_item_nest_step (s.Repeat at count body)

pub stmt_nest-forever : (at : Span) (body : Stmt) → stmt_nest (sv.Forever at body) ≡ stmt_nest body + 1
stmt_nest-forever at body = ap stmt_nest (sym (sv.rolls-Forever at body)) ∙ fold-roll-Stmt ℕ ℕ stmt_nest_step case_item_nest_step (s.Forever at body)

pub stmt_nest-event : (at : Span) (control : EventControl) (body : Stmt) → stmt_nest (sv.EventControl at control body) ≡ stmt_nest body + 1
stmt_nest-event at control body = ap stmt_nest (sym (sv.rolls-EventControl at control body)) ∙ fold-roll-Stmt ℕ ℕ stmt_nest_step case_item_nest_step (s.EventControl at control body)

pub stmt_nest-delay : (at : Span) (delay : Expr) (body : Stmt) → stmt_nest (sv.DelayControl at delay body) ≡ max (expr_nest delay) (stmt_nest body) + 1
stmt_nest-delay at delay body = ap stmt_nest (sym (sv.rolls-DelayControl at delay body)) ∙ fold-roll-Stmt ℕ ℕ stmt_nest_step case_item_nest_step (s.DelayControl at delay body)

pub stmt_nest-task : (n : Identifier) (arguments : List Argument) → stmt_nest (sv.SystemTaskEnable n arguments) ≡ greatest (map argument_nest arguments) + 1
stmt_nest-task n arguments = ap stmt_nest (sym (sv.rolls-SystemTaskEnable n arguments)) ∙ fold-roll-Stmt ℕ ℕ stmt_nest_step case_item_nest_step (s.SystemTaskEnable n arguments)

pub stmt_nest-blocking : (x : Assignment) → stmt_nest (sv.BlockingAssignment x) ≡ assignment_nest x + 1
stmt_nest-blocking x = ap stmt_nest (sym (sv.rolls-BlockingAssignment x)) ∙ fold-roll-Stmt ℕ ℕ stmt_nest_step case_item_nest_step (s.BlockingAssignment x)

pub stmt_nest-nonblocking : (x : Assignment) → stmt_nest (sv.NonblockingAssignment x) ≡ assignment_nest x + 1
stmt_nest-nonblocking x = ap stmt_nest (sym (sv.rolls-NonblockingAssignment x)) ∙ fold-roll-Stmt ℕ ℕ stmt_nest_step case_item_nest_step (s.NonblockingAssignment x)

pub block_nest-plain : (x : PlainItem) → block_nest (gv.Plain x) ≡ plain_nest x + 1
block_nest-plain x = ap block_nest (sym (gv.rolls-Plain x)) ∙ fold-roll-Item ℕ block_nest_step (g.Plain x)

pub block_nest-region : (at : Span) (items : List Item) → block_nest (gv.GenerateRegion at items) ≡ greatest (map among (map block_nest items)) + 1
block_nest-region at items = ap block_nest (sym (gv.rolls-GenerateRegion at items)) ∙ fold-roll-Item ℕ block_nest_step (g.GenerateRegion at items)

pub block_nest-loop : (loop : GenerateLoop) (block : Item) → block_nest (gv.LoopGenerate loop block) ≡ max (loop_nest loop) (block_nest block) + 1
block_nest-loop loop block = ap block_nest (sym (gv.rolls-LoopGenerate loop block)) ∙ fold-roll-Item ℕ block_nest_step (g.LoopGenerate loop block)

pub block_nest-if : (at : Span) (condition : Expr) (first : Item) → block_nest (gv.IfGenerate at condition first None) ≡ max (expr_nest condition) (max (block_nest first) 0) + 1
block_nest-if at condition first = ap block_nest (sym (gv.rolls-IfGenerate at condition first None)) ∙ fold-roll-Item ℕ block_nest_step (g.IfGenerate at condition first None)

pub block_nest-if_else : (at : Span) (condition : Expr) (first second : Item) → block_nest (gv.IfGenerate at condition first (Some second)) ≡ max (expr_nest condition) (max (block_nest first) (block_nest second)) + 1
block_nest-if_else at condition first second = ap block_nest (sym (gv.rolls-IfGenerate at condition first (Some second))) ∙ fold-roll-Item ℕ block_nest_step (g.IfGenerate at condition first (Some second))

pub block_nest-block : (at : Span) (name : Option Identifier) (items : List Item) → block_nest (gv.GenerateBlock at name items) ≡ greatest (map among (map block_nest items)) + 1
block_nest-block at name items = ap block_nest (sym (gv.rolls-GenerateBlock at name items)) ∙ fold-roll-Item ℕ block_nest_step (g.GenerateBlock at name items)

pub block_nest-null : (at : Span) → block_nest (gv.NullGenerate at) ≡ 0
block_nest-null at = ap block_nest (sym (gv.rolls-NullGenerate at)) ∙ fold-roll-Item ℕ block_nest_step (g.NullGenerate at)
