-- What a production means, where parts of it are tokens: only what is seen of these.
use Rattle.seen_tokens.proofs.Common.{◌≡◌, List, [], ◌∷◌, ◌++◌, refl, ap, Span, Token, Rule, Value, first, rest, expr_of, span_of, made, made_by, bare}
use Rattle.vlog_syntax.specs.declared.expr.Expr.{Expr}
use Rattle.vlog_syntax.specs.declared.operator.BinaryOperator.{BinaryOperator}
use Rattle.vlog_syntax.specs.declared.operator.BinaryOperator.TheVariants as b
use Rattle.vlog_grammar.specs.declared.rule.Rule.TheVariants as r
use Rattle.vlog_grammar.specs.declared.table.Symbol.{Symbol}
use Rattle.vlog_grammar.specs.Grammar.{parts_of}
use Rattle.vlog_parts.specs.declared.value.Value.TheVariants as v
use Rattle.vlog_parts.specs.Leaves.{identifier, number, string}
use Rattle.vlog_declarations.specs.Modules.{made_module}
use Rattle.vlog_declarations.specs.Declarations.{made_declaration}
use Rattle.vlog_items.specs.Items.{made_item}
use Rattle.vlog_statements.specs.Events.{made_event}
use Rattle.vlog_statements.specs.Statements.{made_statement}
use Rattle.vlog_trees.specs.Passed.{made_passed}
use Rattle.vlog_trees.specs.Expressions.{made_expression, extended, link, linked, operated}
use Rattle.seen_tokens.proofs.BareValues.{IsBlind, bare_value}

-- what stands behind an operand

operated_blind : (x : Expr) (front : List Value) (t : Token) (back : List Value) → operated x (front ++ v.Token (bare t) ∷ back) ≡ operated x (front ++ v.Token t ∷ back)
unfolding operated extended
operated_blind x [] t back = refl
operated_blind x (y ∷ front) t back = operated_blind (extended x y) front t back

linked_blind : (place : Span) (o : BinaryOperator) (x : Expr) (front : List Value) (t : Token) (back : List Value) → linked place o x (front ++ v.Token (bare t) ∷ back) ≡ linked place o x (front ++ v.Token t ∷ back)
unfolding linked extended
linked_blind place o x [] t [] = refl
linked_blind place o x [] t (z ∷ zs) = refl
linked_blind place o x (y ∷ []) t back = linked_blind place o (extended x y) [] t back
linked_blind place o x (y ∷ z ∷ zs) t back = linked_blind place o (extended x y) (z ∷ zs) t back

link_blind : (o : BinaryOperator) → IsBlind (λ ms. bare_value (link o ms))
unfolding first rest
link_blind o [] t back = refl
link_blind o (x ∷ []) t back = refl
link_blind o (x ∷ y ∷ front) t back = ap v.Chain (linked_blind (span_of x) o (expr_of y) front t back)

chains_blind : IsBlind (λ ms. bare_value (v.Expr (operated (expr_of (first ms)) (rest ms))))
unfolding first rest operated
chains_blind [] t back = refl
chains_blind (x ∷ front) t back = ap v.Expr (operated_blind (expr_of x) front t back)

-- productions without operators behind an operand
abbrev plainly : Rule → List Value → Value
plainly r.OperandWithChains ms = v.Nothing
plainly r.Power ms = v.Nothing
plainly r.Times ms = v.Nothing
plainly r.Divide ms = v.Nothing
plainly r.Remainder ms = v.Nothing
plainly r.Plus ms = v.Nothing
plainly r.Minus ms = v.Nothing
plainly r.ShiftLeft ms = v.Nothing
plainly r.ShiftRight ms = v.Nothing
plainly r.ShiftLeftSigned ms = v.Nothing
plainly r.ShiftRightSigned ms = v.Nothing
plainly r.Less ms = v.Nothing
plainly r.LessEqual ms = v.Nothing
plainly r.Greater ms = v.Nothing
plainly r.GreaterEqual ms = v.Nothing
plainly r.Equal ms = v.Nothing
plainly r.Unequal ms = v.Nothing
plainly r.CaseEqual ms = v.Nothing
plainly r.CaseUnequal ms = v.Nothing
plainly r.BitAnd ms = v.Nothing
plainly r.BitXor ms = v.Nothing
plainly r.BitXnor ms = v.Nothing
plainly r.BitOr ms = v.Nothing
plainly r.LogicalAnd ms = v.Nothing
plainly r.LogicalOr ms = v.Nothing
plainly rule ms = made_expression rule ms

at_0 : (rule : Rule) (t : Token) (back : List Value) → bare_value (plainly rule (v.Token (bare t) ∷ back)) ≡ bare_value (plainly rule (v.Token t ∷ back))
unfolding made_expression made_passed made_statement made_event made_item made_declaration made_module identifier number string first rest
at_0 r.PlainIdentifier t back = refl
at_0 _ t back = refl

at_1 : (rule : Rule) (x1 : Value) (t : Token) (back : List Value) → bare_value (plainly rule (x1 ∷ v.Token (bare t) ∷ back)) ≡ bare_value (plainly rule (x1 ∷ v.Token t ∷ back))
unfolding made_expression made_passed made_statement made_event made_item made_declaration made_module identifier number string first rest
at_1 r.PlainIdentifier x1 t back = refl
at_1 _ x1 t back = refl

at_2 : (rule : Rule) (x1 x2 : Value) (t : Token) (back : List Value) → bare_value (plainly rule (x1 ∷ x2 ∷ v.Token (bare t) ∷ back)) ≡ bare_value (plainly rule (x1 ∷ x2 ∷ v.Token t ∷ back))
unfolding made_expression made_passed made_statement made_event made_item made_declaration made_module identifier number string first rest
at_2 r.PlainIdentifier x1 x2 t back = refl
at_2 _ x1 x2 t back = refl

at_3 : (rule : Rule) (x1 x2 x3 : Value) (t : Token) (back : List Value) → bare_value (plainly rule (x1 ∷ x2 ∷ x3 ∷ v.Token (bare t) ∷ back)) ≡ bare_value (plainly rule (x1 ∷ x2 ∷ x3 ∷ v.Token t ∷ back))
unfolding made_expression made_passed made_statement made_event made_item made_declaration made_module identifier number string first rest
at_3 r.PlainIdentifier x1 x2 x3 t back = refl
at_3 _ x1 x2 x3 t back = refl

at_4 : (rule : Rule) (x1 x2 x3 x4 : Value) (t : Token) (back : List Value) → bare_value (plainly rule (x1 ∷ x2 ∷ x3 ∷ x4 ∷ v.Token (bare t) ∷ back)) ≡ bare_value (plainly rule (x1 ∷ x2 ∷ x3 ∷ x4 ∷ v.Token t ∷ back))
unfolding made_expression made_passed made_statement made_event made_item made_declaration made_module identifier number string first rest
at_4 r.PlainIdentifier x1 x2 x3 x4 t back = refl
at_4 _ x1 x2 x3 x4 t back = refl

at_5 : (rule : Rule) (x1 x2 x3 x4 x5 : Value) (t : Token) (back : List Value) → bare_value (plainly rule (x1 ∷ x2 ∷ x3 ∷ x4 ∷ x5 ∷ v.Token (bare t) ∷ back)) ≡ bare_value (plainly rule (x1 ∷ x2 ∷ x3 ∷ x4 ∷ x5 ∷ v.Token t ∷ back))
unfolding made_expression made_passed made_statement made_event made_item made_declaration made_module identifier number string first rest
at_5 r.PlainIdentifier x1 x2 x3 x4 x5 t back = refl
at_5 _ x1 x2 x3 x4 x5 t back = refl

at_6 : (rule : Rule) (x1 x2 x3 x4 x5 x6 : Value) (t : Token) (back : List Value) → bare_value (plainly rule (x1 ∷ x2 ∷ x3 ∷ x4 ∷ x5 ∷ x6 ∷ v.Token (bare t) ∷ back)) ≡ bare_value (plainly rule (x1 ∷ x2 ∷ x3 ∷ x4 ∷ x5 ∷ x6 ∷ v.Token t ∷ back))
unfolding made_expression made_passed made_statement made_event made_item made_declaration made_module identifier number string first rest
at_6 r.PlainIdentifier x1 x2 x3 x4 x5 x6 t back = refl
at_6 _ x1 x2 x3 x4 x5 x6 t back = refl

at_7 : (rule : Rule) (x1 x2 x3 x4 x5 x6 x7 : Value) (t : Token) (back : List Value) → bare_value (plainly rule (x1 ∷ x2 ∷ x3 ∷ x4 ∷ x5 ∷ x6 ∷ x7 ∷ v.Token (bare t) ∷ back)) ≡ bare_value (plainly rule (x1 ∷ x2 ∷ x3 ∷ x4 ∷ x5 ∷ x6 ∷ x7 ∷ v.Token t ∷ back))
unfolding made_expression made_passed made_statement made_event made_item made_declaration made_module identifier number string first rest
at_7 r.PlainIdentifier x1 x2 x3 x4 x5 x6 x7 t back = refl
at_7 _ x1 x2 x3 x4 x5 x6 x7 t back = refl

at_8 : (rule : Rule) (x1 x2 x3 x4 x5 x6 x7 x8 : Value) (t : Token) (back : List Value) → bare_value (plainly rule (x1 ∷ x2 ∷ x3 ∷ x4 ∷ x5 ∷ x6 ∷ x7 ∷ x8 ∷ v.Token (bare t) ∷ back)) ≡ bare_value (plainly rule (x1 ∷ x2 ∷ x3 ∷ x4 ∷ x5 ∷ x6 ∷ x7 ∷ x8 ∷ v.Token t ∷ back))
unfolding made_expression made_passed made_statement made_event made_item made_declaration made_module identifier number string first rest
at_8 r.PlainIdentifier x1 x2 x3 x4 x5 x6 x7 x8 t back = refl
at_8 _ x1 x2 x3 x4 x5 x6 x7 x8 t back = refl

at_9 : (rule : Rule) (x1 x2 x3 x4 x5 x6 x7 x8 x9 : Value) (t : Token) (back : List Value) → bare_value (plainly rule (x1 ∷ x2 ∷ x3 ∷ x4 ∷ x5 ∷ x6 ∷ x7 ∷ x8 ∷ x9 ∷ v.Token (bare t) ∷ back)) ≡ bare_value (plainly rule (x1 ∷ x2 ∷ x3 ∷ x4 ∷ x5 ∷ x6 ∷ x7 ∷ x8 ∷ x9 ∷ v.Token t ∷ back))
unfolding made_expression made_passed made_statement made_event made_item made_declaration made_module identifier number string first rest
at_9 r.PlainIdentifier x1 x2 x3 x4 x5 x6 x7 x8 x9 t back = refl
at_9 _ x1 x2 x3 x4 x5 x6 x7 x8 x9 t back = refl

at_10 : (rule : Rule) (x1 x2 x3 x4 x5 x6 x7 x8 x9 x10 : Value) (t : Token) (back : List Value) → bare_value (plainly rule (x1 ∷ x2 ∷ x3 ∷ x4 ∷ x5 ∷ x6 ∷ x7 ∷ x8 ∷ x9 ∷ x10 ∷ v.Token (bare t) ∷ back)) ≡ bare_value (plainly rule (x1 ∷ x2 ∷ x3 ∷ x4 ∷ x5 ∷ x6 ∷ x7 ∷ x8 ∷ x9 ∷ x10 ∷ v.Token t ∷ back))
unfolding made_expression made_passed made_statement made_event made_item made_declaration made_module identifier number string first rest
at_10 r.PlainIdentifier x1 x2 x3 x4 x5 x6 x7 x8 x9 x10 t back = refl
at_10 _ x1 x2 x3 x4 x5 x6 x7 x8 x9 x10 t back = refl

at_11 : (rule : Rule) (x1 x2 x3 x4 x5 x6 x7 x8 x9 x10 x11 : Value) (t : Token) (back : List Value) → bare_value (plainly rule (x1 ∷ x2 ∷ x3 ∷ x4 ∷ x5 ∷ x6 ∷ x7 ∷ x8 ∷ x9 ∷ x10 ∷ x11 ∷ v.Token (bare t) ∷ back)) ≡ bare_value (plainly rule (x1 ∷ x2 ∷ x3 ∷ x4 ∷ x5 ∷ x6 ∷ x7 ∷ x8 ∷ x9 ∷ x10 ∷ x11 ∷ v.Token t ∷ back))
unfolding made_expression made_passed made_statement made_event made_item made_declaration made_module identifier number string first rest
at_11 r.PlainIdentifier x1 x2 x3 x4 x5 x6 x7 x8 x9 x10 x11 t back = refl
at_11 _ x1 x2 x3 x4 x5 x6 x7 x8 x9 x10 x11 t back = refl

at_12 : (rule : Rule) (x1 x2 x3 x4 x5 x6 x7 x8 x9 x10 x11 x12 : Value) (t : Token) (back : List Value) → bare_value (plainly rule (x1 ∷ x2 ∷ x3 ∷ x4 ∷ x5 ∷ x6 ∷ x7 ∷ x8 ∷ x9 ∷ x10 ∷ x11 ∷ x12 ∷ v.Token (bare t) ∷ back)) ≡ bare_value (plainly rule (x1 ∷ x2 ∷ x3 ∷ x4 ∷ x5 ∷ x6 ∷ x7 ∷ x8 ∷ x9 ∷ x10 ∷ x11 ∷ x12 ∷ v.Token t ∷ back))
unfolding made_expression made_passed made_statement made_event made_item made_declaration made_module identifier number string first rest
at_12 r.PlainIdentifier x1 x2 x3 x4 x5 x6 x7 x8 x9 x10 x11 x12 t back = refl
at_12 _ x1 x2 x3 x4 x5 x6 x7 x8 x9 x10 x11 x12 t back = refl

beyond : (rule : Rule) (x1 x2 x3 x4 x5 x6 x7 x8 x9 x10 x11 x12 x13 : Value) (xs ys : List Value) → bare_value (plainly rule (x1 ∷ x2 ∷ x3 ∷ x4 ∷ x5 ∷ x6 ∷ x7 ∷ x8 ∷ x9 ∷ x10 ∷ x11 ∷ x12 ∷ x13 ∷ xs)) ≡ bare_value (plainly rule (x1 ∷ x2 ∷ x3 ∷ x4 ∷ x5 ∷ x6 ∷ x7 ∷ x8 ∷ x9 ∷ x10 ∷ x11 ∷ x12 ∷ x13 ∷ ys))
unfolding made_expression made_passed made_statement made_event made_item made_declaration made_module identifier number string first rest
beyond r.PlainIdentifier x1 x2 x3 x4 x5 x6 x7 x8 x9 x10 x11 x12 x13 xs ys = refl
beyond _ x1 x2 x3 x4 x5 x6 x7 x8 x9 x10 x11 x12 x13 xs ys = refl

plainly_blind : (rule : Rule) → IsBlind (λ ms. bare_value (plainly rule ms))
plainly_blind rule [] t back = at_0 rule t back
plainly_blind rule (x1 ∷ []) t back = at_1 rule x1 t back
plainly_blind rule (x1 ∷ x2 ∷ []) t back = at_2 rule x1 x2 t back
plainly_blind rule (x1 ∷ x2 ∷ x3 ∷ []) t back = at_3 rule x1 x2 x3 t back
plainly_blind rule (x1 ∷ x2 ∷ x3 ∷ x4 ∷ []) t back = at_4 rule x1 x2 x3 x4 t back
plainly_blind rule (x1 ∷ x2 ∷ x3 ∷ x4 ∷ x5 ∷ []) t back = at_5 rule x1 x2 x3 x4 x5 t back
plainly_blind rule (x1 ∷ x2 ∷ x3 ∷ x4 ∷ x5 ∷ x6 ∷ []) t back = at_6 rule x1 x2 x3 x4 x5 x6 t back
plainly_blind rule (x1 ∷ x2 ∷ x3 ∷ x4 ∷ x5 ∷ x6 ∷ x7 ∷ []) t back = at_7 rule x1 x2 x3 x4 x5 x6 x7 t back
plainly_blind rule (x1 ∷ x2 ∷ x3 ∷ x4 ∷ x5 ∷ x6 ∷ x7 ∷ x8 ∷ []) t back = at_8 rule x1 x2 x3 x4 x5 x6 x7 x8 t back
plainly_blind rule (x1 ∷ x2 ∷ x3 ∷ x4 ∷ x5 ∷ x6 ∷ x7 ∷ x8 ∷ x9 ∷ []) t back = at_9 rule x1 x2 x3 x4 x5 x6 x7 x8 x9 t back
plainly_blind rule (x1 ∷ x2 ∷ x3 ∷ x4 ∷ x5 ∷ x6 ∷ x7 ∷ x8 ∷ x9 ∷ x10 ∷ []) t back = at_10 rule x1 x2 x3 x4 x5 x6 x7 x8 x9 x10 t back
plainly_blind rule (x1 ∷ x2 ∷ x3 ∷ x4 ∷ x5 ∷ x6 ∷ x7 ∷ x8 ∷ x9 ∷ x10 ∷ x11 ∷ []) t back = at_11 rule x1 x2 x3 x4 x5 x6 x7 x8 x9 x10 x11 t back
plainly_blind rule (x1 ∷ x2 ∷ x3 ∷ x4 ∷ x5 ∷ x6 ∷ x7 ∷ x8 ∷ x9 ∷ x10 ∷ x11 ∷ x12 ∷ []) t back = at_12 rule x1 x2 x3 x4 x5 x6 x7 x8 x9 x10 x11 x12 t back
plainly_blind rule (x1 ∷ x2 ∷ x3 ∷ x4 ∷ x5 ∷ x6 ∷ x7 ∷ x8 ∷ x9 ∷ x10 ∷ x11 ∷ x12 ∷ x13 ∷ front) t back = beyond rule x1 x2 x3 x4 x5 x6 x7 x8 x9 x10 x11 x12 x13 (front ++ v.Token (bare t) ∷ back) (front ++ v.Token t ∷ back)

expression_blind : (rule : Rule) → IsBlind (λ ms. bare_value (made_expression rule ms))
unfolding made_expression
expression_blind r.OperandWithChains = chains_blind
expression_blind r.Power = link_blind b.Power
expression_blind r.Times = link_blind b.Multiply
expression_blind r.Divide = link_blind b.Divide
expression_blind r.Remainder = link_blind b.Modulus
expression_blind r.Plus = link_blind b.Add
expression_blind r.Minus = link_blind b.Subtract
expression_blind r.ShiftLeft = link_blind b.LogicalShiftLeft
expression_blind r.ShiftRight = link_blind b.LogicalShiftRight
expression_blind r.ShiftLeftSigned = link_blind b.ArithmeticShiftLeft
expression_blind r.ShiftRightSigned = link_blind b.ArithmeticShiftRight
expression_blind r.Less = link_blind b.Less
expression_blind r.LessEqual = link_blind b.LessEqual
expression_blind r.Greater = link_blind b.Greater
expression_blind r.GreaterEqual = link_blind b.GreaterEqual
expression_blind r.Equal = link_blind b.LogicalEquality
expression_blind r.Unequal = link_blind b.LogicalInequality
expression_blind r.CaseEqual = link_blind b.CaseEquality
expression_blind r.CaseUnequal = link_blind b.CaseInequality
expression_blind r.BitAnd = link_blind b.BitwiseAnd
expression_blind r.BitXor = link_blind b.BitwiseXor
expression_blind r.BitXnor = link_blind b.BitwiseXnor
expression_blind r.BitOr = link_blind b.BitwiseOr
expression_blind r.LogicalAnd = link_blind b.LogicalAnd
expression_blind r.LogicalOr = link_blind b.LogicalOr
expression_blind rule = plainly_blind rule

made_by_blind : (parts : List Symbol) (rule : Rule) → IsBlind (λ ms. bare_value (made_by parts rule ms))
made_by_blind [] rule front t back = refl
made_by_blind (s ∷ ss) rule front t back = expression_blind rule front t back

pub made_blind : (rule : Rule) → IsBlind (λ ms. bare_value (made rule ms))
unfolding made
made_blind rule = made_by_blind (parts_of rule) rule
