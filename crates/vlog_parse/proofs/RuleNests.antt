-- How deep what a production means nests, from its parts.
use Rattle.vlog_parse.proofs.Common.{◌≡◌, ℕ, ◌+◌, ◌≤◌, max, Bool, true, false, List, [], ◌∷◌, map, Option, Some, None, refl, ap, ◌∙◌, arith, Span, Token, Expr, Stmt, ParameterAssignment, Item}
use Rattle.vlog_parse.proofs.Common.{greatest, expr_nest, part_nest, left_nest, parameter_type_nest, stmt_nest, stmt_nest_step, case_item_nest, case_item_nest_step, among, block_nest, item_nest, Rule}
use Rattle.vlog_parse.proofs.Common.{Symbol, production, kind_of, parts_of, BraceEnd, Select, SelectEnd, MoreParameters, ParameterPort, Value, first, rest, made_module, joined, made_item, placed}
use Rattle.vlog_parse.proofs.Common.{made_event, made_passed, made_statement, assigned, made_expression, selected, left_selected, select, braced, made, is_construct}
use Rattle.mcy_base.specs.declared.word.Word.{Word}
use Rattle.vlog_token.specs.Numbers.{NumberMeaning, number_of}
use Rattle.vlog_syntax.specs.declared.identifier.Identifier.{Identifier}
use Rattle.vlog_syntax.specs.declared.expr.Expr.TheVariants as ev
use Rattle.vlog_syntax.specs.declared.left_side.LeftSide.{LeftSide}
use Rattle.vlog_syntax.specs.declared.stmt.CaseItem.{roll-CaseItem}
use Rattle.vlog_syntax.specs.declared.stmt.Stmt.TheVariants as sv
use Rattle.vlog_syntax.specs.declared.stmt.Stmt.TheFolds.{fold-roll-CaseItem}
use Rattle.vlog_syntax.specs.declared.item.ParameterType.{ParameterType}
use Rattle.vlog_syntax.specs.declared.item.Item.TheVariants as gv
use Rattle.vlog_syntax.proofs.NestLemmas.{block_nest-block, block_nest-if, block_nest-if_else, block_nest-loop, block_nest-null, block_nest-plain, block_nest-region, expr_nest-arguments}
use Rattle.vlog_syntax.proofs.NestLemmas.{expr_nest-bit_select, expr_nest-concatenation, expr_nest-indexed, expr_nest-name, expr_nest-no_arguments, expr_nest-number, expr_nest-parenthesized}
use Rattle.vlog_syntax.proofs.NestLemmas.{expr_nest-part_select, expr_nest-replication, expr_nest-unary, left_nest-bit_select, left_nest-concatenation, left_nest-indexed, left_nest-name}
use Rattle.vlog_syntax.proofs.NestLemmas.{left_nest-part_select, stmt_nest-block, stmt_nest-blocking, stmt_nest-case, stmt_nest-delay, stmt_nest-event, stmt_nest-for, stmt_nest-forever, stmt_nest-if}
use Rattle.vlog_syntax.proofs.NestLemmas.{stmt_nest-if_else, stmt_nest-nonblocking, stmt_nest-null, stmt_nest-repeat, stmt_nest-task, stmt_nest-while}
use Rattle.vlog_grammar.specs.declared.rule.Rule.TheVariants as r
use Rattle.vlog_parts.specs.declared.expression_parts.BraceEnd.TheVariants as be
use Rattle.vlog_parts.specs.declared.expression_parts.Select.TheVariants as s
use Rattle.vlog_parts.specs.declared.expression_parts.SelectEnd.TheVariants as se
use Rattle.vlog_parts.specs.declared.module_parts.ParameterPort.TheVariants as pp
use Rattle.vlog_parts.specs.declared.statement_parts.AssignmentSign.{AssignmentSign}
use Rattle.vlog_parts.specs.declared.statement_parts.AssignmentSign.TheVariants as sg
use Rattle.vlog_parts.specs.declared.value.Value.TheVariants as v
use Rattle.vlog_parts.specs.Leaves.{number, number_by, valued, word}
use Rattle.vlog_parts.specs.Values.{parameter_port_of, more_parameters_of, option_expr_of, expr_of, option_stmt_of, stmt_of, option_item_of, item_of, no_identifier}
use Rattle.vlog_declarations.specs.Declarations.{made_declaration}
use Rattle.vlog_parse.proofs.Nests.{nest, part_deep, else_block_nest, else_stmt_nest, arguments_nest, select_nest, select_end_nest, brace_end_nest, declared_nest, more_parameters_nest}
use Rattle.vlog_parse.proofs.Nests.{parameter_port_nest}

-- each part nests at most so deep
abbrev pub AllWithin : List Symbol → List Value → ℕ → Type 0
AllWithin [] xs n = Unit {0}
AllWithin (s ∷ ss) xs n = (part_deep s (first xs) ≤ n) × AllWithin ss (rest xs) n

-- one deeper, where the production is a construct
abbrev pub grown : Bool → ℕ → ℕ
grown true n = n + 1
grown false n = n

-- Trees by their parts

number_nest : (t : Option Token) → expr_nest (number t) ≡ 0
unfolding number
number_nest None = expr_nest-name no_identifier
number_nest (Some t) = go (number_of t.text.now)
  where
    go : (m : Option NumberMeaning) → expr_nest (number_by t.span m) ≡ 0
    go None = expr_nest-name no_identifier
    go (Some m) = by_word (word m.width m.bits)
      where
        by_word : (w : Option Word) → expr_nest (valued t.span m w) ≡ 0
        by_word None = expr_nest-name no_identifier
        by_word (Some w) = expr_nest-number _

selected_nest : (n : Identifier) (o : Option Select) → expr_nest (selected n o) ≡ select_nest o
unfolding selected
selected_nest n None = expr_nest-name n
selected_nest n (Some (s.Bit place x)) = expr_nest-bit_select n place x
selected_nest n (Some (s.Part place x y)) = expr_nest-part_select n place x y
selected_nest n (Some (s.Indexed place x y)) = expr_nest-indexed n place x y

left_selected_nest : (n : Identifier) (o : Option Select) → left_nest (left_selected n o) ≡ select_nest o
unfolding left_selected
left_selected_nest n None = left_nest-name n
left_selected_nest n (Some (s.Bit place x)) = left_nest-bit_select n place x
left_selected_nest n (Some (s.Part place x y)) = left_nest-part_select n place x y
left_selected_nest n (Some (s.Indexed place x y)) = left_nest-indexed n place x y

select_end : (place : Span) (x : Expr) (y : SelectEnd) → select_nest (Some (select place x y)) ≡ max (expr_nest x) (select_end_nest y) + 1
unfolding select
select_end place x se.Bit = omega arith
select_end place x (se.Part y) = refl
select_end place x (se.Indexed y) = refl

call_nest : (n : Identifier) (xs : List Expr) → expr_nest (ev.SystemFunctionCall n xs) ≡ arguments_nest xs
call_nest n [] = expr_nest-no_arguments n
call_nest n (x ∷ xs) = expr_nest-arguments n x xs

braced_nest : (place : Span) (x : Expr) (y : BraceEnd) → expr_nest (braced place x y) ≡ max (expr_nest x) (brace_end_nest y) + 1
unfolding braced
braced_nest place x (be.Concatenation xs) = expr_nest-concatenation place (x ∷ xs)
braced_nest place x (be.Replication xs) = expr_nest-replication place x xs

if_nest : (at : Span) (condition : Expr) (one : Stmt) (other : Option Stmt) → stmt_nest (sv.Conditional at condition one other) ≡ max (expr_nest condition) (max (stmt_nest one) (else_stmt_nest other)) + 1
if_nest at condition one None = stmt_nest-if at condition one
if_nest at condition one (Some other) = stmt_nest-if_else at condition one other

assigned_nest : (x : LeftSide) (sign : AssignmentSign) (y : Expr) → stmt_nest (assigned x sign y) ≡ max (left_nest x) (expr_nest y) + 1
unfolding assigned
assigned_nest x (sg.Blocking place) y = stmt_nest-blocking _
assigned_nest x (sg.Nonblocking place) y = stmt_nest-nonblocking _

case_nest : (place : Span) (labels : List Expr) (body : Stmt) → case_item_nest (roll-CaseItem (record { span = place; labels = labels; body = body })) ≡ max (greatest (map expr_nest labels)) (stmt_nest body)
case_nest place labels body = fold-roll-CaseItem ℕ ℕ stmt_nest_step case_item_nest_step (record { span = place; labels = labels; body = body })

among_each : (xs : List Item) → greatest (map among (map block_nest xs)) ≡ greatest (map item_nest xs)
among_each [] = refl
among_each (x ∷ xs) = ap (max (item_nest x)) (among_each xs)

region_nest : (at : Span) (xs : List Item) → block_nest (gv.GenerateRegion at xs) ≡ greatest (map item_nest xs) + 1
region_nest at xs = block_nest-region at xs ∙ ap (λ (n : ℕ). n + 1) (among_each xs)

begun_block : (at : Span) (name : Option Identifier) (xs : List Item) → block_nest (gv.GenerateBlock at name xs) ≡ greatest (map item_nest xs) + 1
begun_block at name xs = block_nest-block at name xs ∙ ap (λ (n : ℕ). n + 1) (among_each xs)

if_item : (at : Span) (condition : Expr) (one : Item) (other : Option Item) → block_nest (gv.IfGenerate at condition one other) ≡ max (expr_nest condition) (max (block_nest one) (else_block_nest other)) + 1
if_item at condition one None = block_nest-if at condition one
if_item at condition one (Some other) = block_nest-if_else at condition one other

placed_nest : (x : Option Expr) (ys : List (Option Expr)) → greatest (map part_nest (placed x ys)) ≤ max (part_nest x) (greatest (map part_nest ys))
unfolding placed
placed_nest None [] = omega arith
placed_nest (Some x) ys = omega arith
placed_nest None (y ∷ ys) = omega arith

joined_nest : (x : ParameterPort) (more : MoreParameters) → more_parameters_nest (joined x more) ≤ max (parameter_port_nest x) (more_parameters_nest more)
unfolding joined
joined_nest (pp.Next x) more = omega arith
joined_nest (pp.First place type x) more = omega arith

-- a parameter with `parameter`, which begins the declarations in a head
head_nest : (place : Span) (type : ParameterType) (x : ParameterAssignment) (more : MoreParameters) → declared_nest (joined (pp.First place type x) more).others ≤ max (max (parameter_type_nest type) (expr_nest x.value)) (more_parameters_nest more)
unfolding joined
head_nest place type x more = omega arith

-- A part that may be left out

some_expr : (x : Value) → part_nest (option_expr_of x) ≤ expr_nest (expr_of x)
some_expr (v.Expr x) = omega arith
some_expr _ = omega arith

some_stmt : (x : Value) → else_stmt_nest (option_stmt_of x) ≤ stmt_nest (stmt_of x)
some_stmt (v.Stmt x) = omega arith
some_stmt _ = omega arith

some_item : (x : Value) → else_block_nest (option_item_of x) ≤ block_nest (item_of x)
some_item (v.Item x) = omega arith
some_item _ = omega arith

-- an operand with chains behind it is looked at on its own
unfoldable pub is_plain : Rule → Bool
is_plain r.OperandWithChains = false
is_plain _ = true

-- What a production means nests at most as deep as its parts, and one deeper where it is a construct.
pub rule_nest : (rule : Rule) (ms : List Value) (n : ℕ) → is_plain rule ≡ true → AllWithin (parts_of rule) ms n → nest (kind_of rule) (made rule ms) ≤ grown (is_construct rule) n
unfolding made made_expression made_passed made_statement made_event made_declaration made_item made_module production nest is_construct is_plain
rule_nest r.OperandWithChains ms n p w = absurd cc
rule_nest r.LeftName ms n p w = omega (arith, left_selected_nest)
rule_nest r.LeftConcatenation ms n p w = omega (arith, left_nest-concatenation)
rule_nest r.SomeSelect ms n p w = omega (arith, select_end)
rule_nest r.UnaryPlus ms n p w = omega (arith, expr_nest-unary)
rule_nest r.UnaryMinus ms n p w = omega (arith, expr_nest-unary)
rule_nest r.LogicalNot ms n p w = omega (arith, expr_nest-unary)
rule_nest r.BitNot ms n p w = omega (arith, expr_nest-unary)
rule_nest r.ReductionAnd ms n p w = omega (arith, expr_nest-unary)
rule_nest r.ReductionNand ms n p w = omega (arith, expr_nest-unary)
rule_nest r.ReductionOr ms n p w = omega (arith, expr_nest-unary)
rule_nest r.ReductionNor ms n p w = omega (arith, expr_nest-unary)
rule_nest r.ReductionXor ms n p w = omega (arith, expr_nest-unary)
rule_nest r.ReductionXnor ms n p w = omega (arith, expr_nest-unary)
rule_nest r.NumberOperand ms n p w = omega (arith, number_nest)
rule_nest r.DelayNumber ms n p w = omega (arith, number_nest)
rule_nest r.NameOperand ms n p w = omega (arith, selected_nest)
rule_nest r.SystemFunctionCall ms n p w = omega (arith, call_nest)
rule_nest r.UnaryFunctionCall ms n p w = omega (arith, expr_nest-arguments)
rule_nest r.Parenthesized ms n p w = omega (arith, expr_nest-parenthesized)
rule_nest r.DelayExpression ms n p w = omega (arith, expr_nest-parenthesized)
rule_nest r.Braces ms n p w = omega (arith, braced_nest)
rule_nest r.DelayName ms n p w = omega (arith, expr_nest-name)
rule_nest r.SomeExpression ms n p w = omega (arith, some_expr)
rule_nest r.SomeInitialValue ms n p w = omega (arith, some_expr)
rule_nest r.NullStatement ms n p w = omega (arith, stmt_nest-null)
rule_nest r.SeqBlock ms n p w = omega (arith, stmt_nest-block)
rule_nest r.ConditionalStatement ms n p w = omega (arith, if_nest)
rule_nest r.CaseStatement ms n p w = omega (arith, stmt_nest-case)
rule_nest r.ForStatement ms n p w = omega (arith, stmt_nest-for)
rule_nest r.WhileStatement ms n p w = omega (arith, stmt_nest-while)
rule_nest r.RepeatStatement ms n p w = omega (arith, stmt_nest-repeat)
rule_nest r.ForeverStatement ms n p w = omega (arith, stmt_nest-forever)
rule_nest r.EventControlStatement ms n p w = omega (arith, stmt_nest-event)
rule_nest r.DelayControlStatement ms n p w = omega (arith, stmt_nest-delay)
rule_nest r.SystemTaskEnable ms n p w = omega (arith, stmt_nest-task)
rule_nest r.UnaryFunctionEnable ms n p w = omega (arith, stmt_nest-task)
rule_nest r.Assignment ms n p w = omega (arith, assigned_nest)
rule_nest r.SomeElse ms n p w = omega (arith, some_stmt)
rule_nest r.LabelledCaseItem ms n p w = omega (arith, case_nest)
rule_nest r.DefaultCaseItem ms n p w = omega (arith, case_nest)
rule_nest r.InputDeclaration ms n p w = omega (arith, block_nest-plain)
rule_nest r.OutputDeclaration ms n p w = omega (arith, block_nest-plain)
rule_nest r.ParameterDeclaration ms n p w = omega (arith, block_nest-plain)
rule_nest r.LocalParameterDeclaration ms n p w = omega (arith, block_nest-plain)
rule_nest r.NetDeclaration ms n p w = omega (arith, block_nest-plain)
rule_nest r.RegDeclaration ms n p w = omega (arith, block_nest-plain)
rule_nest r.IntegerDeclaration ms n p w = omega (arith, block_nest-plain)
rule_nest r.GenvarDeclaration ms n p w = omega (arith, block_nest-plain)
rule_nest r.ContinuousAssign ms n p w = omega (arith, block_nest-plain)
rule_nest r.AlwaysConstruct ms n p w = omega (arith, block_nest-plain)
rule_nest r.InitialConstruct ms n p w = omega (arith, block_nest-plain)
rule_nest r.ModuleInstantiation ms n p w = omega (arith, block_nest-plain)
rule_nest r.PrimitiveItem ms n p w = omega (arith, block_nest-null)
rule_nest r.GateItem ms n p w = omega (arith, block_nest-null)
rule_nest r.CaseGenerate ms n p w = omega (arith, block_nest-null)
rule_nest r.SystemVerilogItem ms n p w = omega (arith, block_nest-null)
rule_nest r.GenerateRegion ms n p w = omega (arith, region_nest)
rule_nest r.LoopGenerate ms n p w = omega (arith, block_nest-loop)
rule_nest r.ConditionalGenerate ms n p w = omega (arith, if_item)
rule_nest r.GenerateBeginEnd ms n p w = omega (arith, begun_block)
rule_nest r.NullGenerate ms n p w = omega (arith, block_nest-null)
rule_nest r.SomeGenerateElse ms n p w = omega (arith, some_item)
rule_nest r.OrderedConnections ms n p w = omega (arith, placed_nest)
rule_nest r.NextParameterPort ms n p w = omega (arith, joined_nest (parameter_port_of (first (rest ms))) (more_parameters_of (first (rest (rest ms)))))
rule_nest r.ParameterPortList ms n p w = omega (arith, head_nest)
rule_nest _ ms n p w = omega arith
