-- Expressions and left sides (IEEE 1364-2005, A.8): what each production means, from what its parts mean.
use Rattle.std.specs.Prelude.{List, [], ◌∷◌, Option, Some, None}
use Rattle.mcy_base.specs.declared.span.Span.{Span}
use Rattle.vlog_syntax.specs.declared.identifier.Identifier.{Identifier}
use Rattle.vlog_syntax.specs.declared.operator.BinaryOperator.{BinaryOperator}
use Rattle.vlog_syntax.specs.declared.operator.BinaryOperator.TheVariants as b
use Rattle.vlog_syntax.specs.declared.operator.UnaryOperator.{UnaryOperator}
use Rattle.vlog_syntax.specs.declared.operator.UnaryOperator.TheVariants as u
use Rattle.vlog_syntax.specs.declared.expr.Expr.{Expr}
use Rattle.vlog_syntax.specs.declared.expr.Expr.TheVariants as e
use Rattle.vlog_syntax.specs.declared.left_side.LeftSide.{LeftSide}
use Rattle.vlog_syntax.specs.declared.left_side.LeftSide.TheVariants as l
use Rattle.vlog_grammar.specs.declared.rule.Rule.{Rule}
use Rattle.vlog_grammar.specs.declared.rule.Rule.TheVariants as r
use Rattle.vlog_parts.specs.declared.expression_parts.Link.{Link}
use Rattle.vlog_parts.specs.declared.expression_parts.Select.{Select}
use Rattle.vlog_parts.specs.declared.expression_parts.Select.TheVariants as s
use Rattle.vlog_parts.specs.declared.expression_parts.SelectEnd.{SelectEnd}
use Rattle.vlog_parts.specs.declared.expression_parts.SelectEnd.TheVariants as se
use Rattle.vlog_parts.specs.declared.expression_parts.BraceEnd.{BraceEnd}
use Rattle.vlog_parts.specs.declared.expression_parts.BraceEnd.TheVariants as be
use Rattle.vlog_parts.specs.declared.value.Value.{Value}
use Rattle.vlog_parts.specs.declared.value.Value.TheVariants as v
use Rattle.vlog_parts.specs.Leaves.{identifier, number}
use Rattle.vlog_trees.specs.Passed.{made_passed}
use Rattle.vlog_parts.specs.Numbered.{first, rest, second, third, fourth}
use Rattle.vlog_parts.specs.Values.{span_of, token_of, identifier_of, expr_of, exprs_of, chain_of, select_of, select_end_of, brace_end_of, left_of, lefts_of}

-- operators of one precedence with their right operands, to the left
unfoldable pub chained : Expr → List Link → Expr
chained x [] = x
chained x (o ∷ os) = chained (e.Binary o.span o.operator x o.right) os

-- an operand with a chain behind it, or with the branches of a condition
unfoldable pub extended : Expr → Value → Expr
extended x (v.Chain os) = chained x os
extended x (v.Branches c) = e.Conditional c.span x c.yes c.no
extended x _ = x

-- an operand with all that stands behind it, the operators of the highest precedence first
unfoldable pub operated : Expr → List Value → Expr
operated x [] = x
operated x (y ∷ ys) = operated (extended x y) ys

-- An operator with its right operand, in front of the chain that goes on. Behind the operand stand the chains that
-- bind closer.
unfoldable pub linked : Span → BinaryOperator → Expr → List Value → List Link
linked place o x [] = record { span = place; operator = o; right = x } ∷ []
linked place o x (y ∷ []) = record { span = place; operator = o; right = x } ∷ chain_of y
linked place o x (y ∷ z ∷ zs) = linked place o (extended x y) (z ∷ zs)

abbrev pub link : BinaryOperator → List Value → Value
link o ms = v.Chain (linked (span_of (first ms)) o (expr_of (second ms)) (rest (rest ms)))

abbrev pub unary : UnaryOperator → List Value → Value
unary o ms = v.Expr (e.Unary (span_of (first ms)) o (expr_of (second ms)))

-- `[ Expression SelectEnd`
unfoldable pub select : Span → Expr → SelectEnd → Select
select place x se.Bit = s.Bit place x
select place x (se.Part y) = s.Part place x y
select place x (se.Indexed y) = s.Indexed place x y

unfoldable pub selected : Identifier → Option Select → Expr
selected n None = e.Name n
selected n (Some (s.Bit place x)) = e.BitSelect n place x
selected n (Some (s.Part place x y)) = e.PartSelect n place x y
selected n (Some (s.Indexed place x y)) = e.IndexedPartSelect n place x y

unfoldable pub left_selected : Identifier → Option Select → LeftSide
left_selected n None = l.Name n
left_selected n (Some (s.Bit place x)) = l.BitSelect n place x
left_selected n (Some (s.Part place x y)) = l.PartSelect n place x y
left_selected n (Some (s.Indexed place x y)) = l.IndexedPartSelect n place x y

-- `{ Expression BraceEnd`
unfoldable pub braced : Span → Expr → BraceEnd → Expr
braced place x (be.Concatenation xs) = e.Concatenation place (x ∷ xs)
braced place x (be.Replication xs) = e.MultipleConcatenation place x xs

unfoldable pub made_expression : Rule → List Value → Value
made_expression r.PlainIdentifier ms = v.Identifier (identifier (token_of (first ms)))
made_expression r.SystemVerilogIdentifier ms = v.Identifier (identifier (token_of (first ms)))
made_expression r.SomeExpression ms = first ms
made_expression r.NextExpression ms = v.Exprs (expr_of (second ms) ∷ exprs_of (third ms))
made_expression r.LeftName ms = v.LeftSide (left_selected (identifier_of (first ms)) (select_of (second ms)))
made_expression r.LeftConcatenation ms = v.LeftSide (l.Concatenation (span_of (first ms)) (left_of (second ms) ∷ lefts_of (third ms)))
made_expression r.NextLeftSide ms = v.LeftSides (left_of (second ms) ∷ lefts_of (third ms))
made_expression r.SomeSelect ms = v.Select (select (span_of (first ms)) (expr_of (second ms)) (select_end_of (third ms)))
made_expression r.BitSelect ms = v.SelectEnd se.Bit
made_expression r.PartSelect ms = v.SelectEnd (se.Part (expr_of (second ms)))
made_expression r.IndexedPartSelect ms = v.SelectEnd (se.Indexed (expr_of (second ms)))
made_expression r.OperandWithChains ms = v.Expr (operated (expr_of (first ms)) (rest ms))
made_expression r.Power ms = link b.Power ms
made_expression r.Times ms = link b.Multiply ms
made_expression r.Divide ms = link b.Divide ms
made_expression r.Remainder ms = link b.Modulus ms
made_expression r.Plus ms = link b.Add ms
made_expression r.Minus ms = link b.Subtract ms
made_expression r.ShiftLeft ms = link b.LogicalShiftLeft ms
made_expression r.ShiftRight ms = link b.LogicalShiftRight ms
made_expression r.ShiftLeftSigned ms = link b.ArithmeticShiftLeft ms
made_expression r.ShiftRightSigned ms = link b.ArithmeticShiftRight ms
made_expression r.Less ms = link b.Less ms
made_expression r.LessEqual ms = link b.LessEqual ms
made_expression r.Greater ms = link b.Greater ms
made_expression r.GreaterEqual ms = link b.GreaterEqual ms
made_expression r.Equal ms = link b.LogicalEquality ms
made_expression r.Unequal ms = link b.LogicalInequality ms
made_expression r.CaseEqual ms = link b.CaseEquality ms
made_expression r.CaseUnequal ms = link b.CaseInequality ms
made_expression r.BitAnd ms = link b.BitwiseAnd ms
made_expression r.BitXor ms = link b.BitwiseXor ms
made_expression r.BitXnor ms = link b.BitwiseXnor ms
made_expression r.BitOr ms = link b.BitwiseOr ms
made_expression r.LogicalAnd ms = link b.LogicalAnd ms
made_expression r.LogicalOr ms = link b.LogicalOr ms
made_expression r.SomeCondition ms = v.Branches (record { span = span_of (first ms); yes = expr_of (second ms); no = expr_of (fourth ms) })
made_expression r.UnaryPlus ms = unary u.Plus ms
made_expression r.UnaryMinus ms = unary u.Minus ms
made_expression r.LogicalNot ms = unary u.LogicalNot ms
made_expression r.BitNot ms = unary u.BitwiseNot ms
made_expression r.ReductionAnd ms = unary u.ReductionAnd ms
made_expression r.ReductionNand ms = unary u.ReductionNand ms
made_expression r.ReductionOr ms = unary u.ReductionOr ms
made_expression r.ReductionNor ms = unary u.ReductionNor ms
made_expression r.ReductionXor ms = unary u.ReductionXor ms
made_expression r.ReductionXnor ms = unary u.ReductionXnor ms
made_expression r.NumberOperand ms = v.Expr (number (token_of (first ms)))
made_expression r.DelayNumber ms = v.Expr (number (token_of (first ms)))
made_expression r.DelayName ms = v.Expr (e.Name (identifier_of (first ms)))
made_expression r.DelayExpression ms = v.Expr (e.Parenthesized (span_of (first ms)) (expr_of (second ms)))
made_expression r.NameOperand ms = v.Expr (selected (identifier_of (first ms)) (select_of (second ms)))
made_expression r.SystemFunctionCall ms = v.Expr (e.SystemFunctionCall (identifier (token_of (first ms))) (exprs_of (second ms)))
made_expression r.UnaryFunctionCall ms = v.Expr (e.SystemFunctionCall (identifier (token_of (first ms))) (expr_of (third ms) ∷ []))
made_expression r.Parenthesized ms = v.Expr (e.Parenthesized (span_of (first ms)) (expr_of (second ms)))
made_expression r.Braces ms = v.Expr (braced (span_of (first ms)) (expr_of (second ms)) (brace_end_of (third ms)))
made_expression r.SomeFunctionArguments ms = v.Exprs (expr_of (second ms) ∷ exprs_of (third ms))
made_expression r.Concatenation ms = v.BraceEnd (be.Concatenation (exprs_of (first ms)))
made_expression r.Replication ms = v.BraceEnd (be.Replication (expr_of (second ms) ∷ exprs_of (third ms)))
made_expression rule ms = made_passed rule ms
