-- How high rows of trees are, from what the trees mean: at least as high as that nests, up to 201.
use Rattle.vlog_parse.proofs.Common.{◌≡◌, ℕ, suc, ◌+◌, ◌-◌, ◌<◌, ◌≤◌, max, min, Bool, true, false, ◌&&◌, if◌then◌else◌, List, [], ◌∷◌, ◌++◌, Option, Some, None, ◌⊎◌, inl, inr, length, take, drop}
use Rattle.vlog_parse.proofs.Common.{refl, sym, ap, subst, ◌∙◌, eq-eqb, arith, cases_lt, lt-ltb, le-ltb, ne_eqb, append-nil, take-append-drop, Span, Token, Expr, expr_nest, Feature, Kind, Rule}
use Rattle.vlog_parse.proofs.Common.{Classed, Symbol, Is, Refused, Of, production, kind_of, parts_of, Trees, Nil, Leaf, Node, Derives, Fits, tokens_of, Value, first, rest, made_expression, chained}
use Rattle.vlog_parse.proofs.Common.{extended, operated, linked, leaf, made, means, Row, behind, begun, begun_by, depths_in, ended, ended_by, height_of, is_construct, more, settled}
use Rattle.std.specs.Prelude.{◌==◌}
use Rattle.vlog_syntax.specs.declared.expr.Expr.TheVariants as ev
use Rattle.vlog_syntax.specs.declared.operator.BinaryOperator.{BinaryOperator}
use Rattle.vlog_syntax.specs.declared.operator.BinaryOperator.TheVariants as o
use Rattle.vlog_syntax.proofs.NestLemmas.{expr_nest-binary, expr_nest-conditional}
use Rattle.vlog_grammar.specs.declared.class.Class.TheVariants as c
use Rattle.vlog_grammar.specs.declared.rule.Kind.TheVariants as k
use Rattle.vlog_grammar.specs.declared.rule.Rule.TheVariants as r
use Rattle.vlog_parts.specs.declared.value.Value.TheVariants as v
use Rattle.vlog_parts.specs.Values.{expr_of, chain_of, span_of}
use Rattle.vlog_parse.proofs.Depths.{ended-parts}
use Rattle.vlog_parse.proofs.Nests.{nest, part_deep, is_chained}
use Rattle.vlog_parse.proofs.RuleNests.{AllWithin, grown, is_plain, rule_nest}
use Rattle.vlog_grammar.proofs.Passes.{and_left}
use Rattle.vlog_expand.proofs.Closing.{and-right}

-- One construct more

pub more_covers : (n h : ℕ) → min n 201 ≤ h → min (n + 1) 201 ≤ more h
more_covers n h covers = go (cases_lt 200 h)
  where
    go : (200 < h) ⊎ (h ≤ 200) → min (n + 1) 201 ≤ more h
    go (inl lt) = subst (λ (m : ℕ). min (n + 1) 201 ≤ m) (sym (ap (λ (b : Bool). if b then h else h + 1) (lt-ltb 200 h lt))) (omega (arith, lt))
    go (inr le) = subst (λ (m : ℕ). min (n + 1) 201 ≤ m) (sym (ap (λ (b : Bool). if b then h else h + 1) (le-ltb 200 h le))) (omega (arith, le, covers))

more_grows : (h : ℕ) → h ≤ more h
more_grows h = go (cases_lt 200 h)
  where
    go : (200 < h) ⊎ (h ≤ 200) → h ≤ more h
    go (inl lt) = subst (λ (m : ℕ). h ≤ m) (sym (ap (λ (b : Bool). if b then h else h + 1) (lt-ltb 200 h lt))) (omega arith)
    go (inr le) = subst (λ (m : ℕ). h ≤ m) (sym (ap (λ (b : Bool). if b then h else h + 1) (le-ltb 200 h le))) (omega arith)

more_low : (h : ℕ) → h ≤ 200 → more h ≡ h + 1
more_low h le = ap (λ (b : Bool). if b then h else h + 1) (le-ltb 200 h le)

height_grown : (own : Bool) (h : ℕ) → h ≤ 200 → height_of own h ≡ grown own h
height_grown true h le = more_low h le
height_grown false h le = refl

height_grows : (own : Bool) (h : ℕ) → h ≤ height_of own h
height_grows true h = more_grows h
height_grows false h = omega arith

-- How high a row is before and behind a part of this kind. A chain of operators makes an expression of one that stands
-- left of it.
pub record IsPart (kind : Kind) (x : Value) (before behind : ℕ) : Type 0 where
  pub grows : before ≤ behind
  pub covers : min (nest kind x) 201 ≤ behind
  pub extends : is_chained kind ≡ true → (left : Expr) → min (expr_nest left) 201 ≤ before → min (expr_nest (extended left x)) 201 ≤ behind

abbrev pub Grows : Symbol → Value → ℕ → ℕ → Type 0
Grows (Is c) x a b = a ≤ b
Grows (Refused c f) x a b = a ≤ b
Grows (Of k) x a b = IsPart k x a b

pub record Next (s : Symbol) (x : Value) (before : ℕ) (Others : ℕ → Type 0) : Type 0 where
  pub height : ℕ
  pub part : Grows s x before height
  pub others : Others height

-- a row of parts
abbrev pub Rows : List Symbol → List Value → ℕ → ℕ → Type 0
Rows [] [] a b = a ≤ b
Rows [] (x ∷ xs) a b = ⊥
Rows (s ∷ ss) [] a b = ⊥
Rows (s ∷ ss) (x ∷ xs) a b = Next s x a (λ h. Rows ss xs h b)

-- the same of an operator, whose right operand is read at first
abbrev pub Sided : List Symbol → List Symbol → List Value → ℕ → ℕ → ℕ → Type 0
Sided [] back xs left a b = Rows back xs (more (max a left)) b
Sided (s ∷ front) back [] left a b = ⊥
Sided (s ∷ front) back (x ∷ xs) left a b = Next s x a (λ h. Sided front back xs left h b)

part_grows : (s : Symbol) (x : Value) (a b : ℕ) → Grows s x a b → a ≤ b
part_grows (Is c) x a b g = g
part_grows (Refused c f) x a b g = g
part_grows (Of k) x a b g = g.grows

part_covers : (s : Symbol) (x : Value) (a b : ℕ) → Grows s x a b → min (part_deep s x) 201 ≤ b
part_covers (Is c) x a b g = omega arith
part_covers (Refused c f) x a b g = omega arith
part_covers (Of k) x a b g = g.covers

pub rows_grow : (ss : List Symbol) (xs : List Value) (a b : ℕ) → Rows ss xs a b → a ≤ b
rows_grow [] [] a b w = w
rows_grow [] (x ∷ xs) a b w = absurd w
rows_grow (s ∷ ss) [] a b w = absurd w
rows_grow (s ∷ ss) (x ∷ xs) a b w =
    let here : a ≤ w.height = part_grows s x a w.height w.part in
    let later : w.height ≤ b = rows_grow ss xs w.height b w.others in
    omega (arith, here, later)

sided_grow : (front back : List Symbol) (xs : List Value) (left a b : ℕ) → Sided front back xs left a b → left ≤ b
sided_grow [] back xs left a b w =
    let here : more (max a left) ≤ b = rows_grow back xs (more (max a left)) b w in
    let up : max a left ≤ more (max a left) = more_grows (max a left) in
    omega (arith, here, up)
sided_grow (s ∷ front) back [] left a b w = absurd w
sided_grow (s ∷ front) back (x ∷ xs) left a b w = sided_grow front back xs left w.height b w.others

-- where a row is at most 200 high, so deep at most do its parts nest
pub rows_within : (ss : List Symbol) (xs others : List Value) (a b : ℕ) → b ≤ 200 → Rows ss xs a b → AllWithin ss (xs ++ others) b
unfolding first rest
rows_within [] xs others a b low w = tt
rows_within (s ∷ ss) [] others a b low w = absurd w
rows_within (s ∷ ss) (x ∷ xs) others a b low w =
    let here : min (part_deep s x) 201 ≤ w.height = part_covers s x a w.height w.part in
    let later : w.height ≤ b = rows_grow ss xs w.height b w.others in
    (omega (arith, here, later, low), rows_within ss xs others w.height b low w.others)

-- An operand with chains behind it

all_chained : List Symbol → Bool
all_chained [] = true
all_chained (Is c ∷ ss) = false
all_chained (Refused c f ∷ ss) = false
all_chained (Of k ∷ ss) = is_chained k && all_chained ss

operated_high : (ss : List Symbol) (xs : List Value) (x : Expr) (a b : ℕ) → all_chained ss ≡ true → min (expr_nest x) 201 ≤ a → Rows ss xs a b → min (expr_nest (operated x xs)) 201 ≤ b
unfolding operated all_chained
operated_high [] [] x a b h e w = omega (arith, e, w)
operated_high [] (y ∷ ys) x a b h e w = absurd w
operated_high (s ∷ ss) [] x a b h e w = absurd w
operated_high (Is c ∷ ss) (y ∷ ys) x a b h e w = absurd cc
operated_high (Refused c f ∷ ss) (y ∷ ys) x a b h e w = absurd cc
operated_high (Of k ∷ ss) (y ∷ ys) x a b h e w =
    operated_high ss ys (extended x y) w.height b (and-right (is_chained k) (all_chained ss) h) (w.part.extends (and_left (is_chained k) (all_chained ss) h) x e) w.others

-- An operator with its right operand, and the chain that goes on

chain_high : (k : Kind) (y : Value) (x : Expr) (a b : ℕ) → is_chained k ≡ true → min (expr_nest x) 201 ≤ a → IsPart k y a b → min (expr_nest (chained x (chain_of y))) 201 ≤ b
unfolding extended chained
chain_high k (v.Chain os) x a b h e g = g.extends h x e
chain_high k _ x a b h e g = let up : a ≤ b = g.grows in omega (arith, e, up)

linked_high : (closer : List Symbol) (own : Kind) (ys : List Value) (place : Span) (op : BinaryOperator) (x left : Expr) (beside a b : ℕ) → all_chained closer ≡ true → is_chained own ≡ true → min (expr_nest x) 201 ≤ a → min (expr_nest left) 201 ≤ beside → Sided closer (Of own ∷ []) ys beside a b → min (expr_nest (chained left (linked place op x ys))) 201 ≤ b
unfolding chained linked all_chained
linked_high [] own [] place op x left beside a b h i e f w = absurd w
linked_high [] own (y ∷ []) place op x left beside a b h i e f w =
    let whole = expr_nest-binary place op left x in
    let deep : min (expr_nest (ev.Binary place op left x)) 201 ≤ more (max a beside) = subst (λ (n : ℕ). min n 201 ≤ more (max a beside)) (sym whole) (more_covers (max (expr_nest left) (expr_nest x)) (max a beside) (omega (arith, e, f))) in
    let end : w.height ≤ b = w.others in
    let on : min (expr_nest (chained (ev.Binary place op left x) (chain_of y))) 201 ≤ w.height = chain_high own y (ev.Binary place op left x) (more (max a beside)) w.height i deep w.part in
    omega (arith, on, end)
linked_high [] own (y ∷ z ∷ zs) place op x left beside a b h i e f w = absurd w.others
linked_high (s ∷ closer) own [] place op x left beside a b h i e f w = absurd w
linked_high (Is c ∷ closer) own (y ∷ ys) place op x left beside a b h i e f w = absurd cc
linked_high (Refused c g ∷ closer) own (y ∷ ys) place op x left beside a b h i e f w = absurd cc
linked_high (Of k ∷ []) own (y ∷ []) place op x left beside a b h i e f w = absurd w.others
linked_high (Of k ∷ s ∷ closer) own (y ∷ []) place op x left beside a b h i e f w = absurd w.others
linked_high (Of k ∷ closer) own (y ∷ z ∷ zs) place op x left beside a b h i e f w =
    let here = w.part.extends (and_left (is_chained k) (all_chained closer) h) x e in
    linked_high closer own (z ∷ zs) place op (extended x y) left beside w.height b (and-right (is_chained k) (all_chained closer) h) i here f w.others

-- the parts of an operator's right operand and those behind it
abbrev pub front_in : Option ℕ → List Symbol → List Symbol
front_in None ps = []
front_in (Some n) ps = take (length ps - n) ps

abbrev pub back_in : Option ℕ → List Symbol → List Symbol
back_in None ps = ps
back_in (Some n) ps = drop (length ps - n) ps

abbrev pub front_of : Rule → List Symbol
front_of rule = front_in (behind rule) (parts_of rule)

abbrev pub back_of : Rule → List Symbol
back_of rule = back_in (behind rule) (parts_of rule)

front_and_back : (o : Option ℕ) (ps : List Symbol) → front_in o ps ++ back_in o ps ≡ ps
front_and_back None ps = refl
front_and_back (Some n) ps = take-append-drop (length ps - n) ps

-- Rows where they settle

pub settled_plain : (row : Row) → row.is_operator ≡ false → settled row ≡ row
unfolding settled
settled_plain row plain = ap (λ (b : Bool). if b && (row.parts == row.behind) then record row { depth = row.depth - 1; height = more (max row.height row.left); left = 0; is_operator = false } else row) plain

settled_open : (row : Row) → (row.parts ≡ row.behind → ⊥) → settled row ≡ row
unfolding settled
settled_open row apart = go row.is_operator
  where
    other : Row
    other = record row { depth = row.depth - 1; height = more (max row.height row.left); left = 0; is_operator = false }

    go : (b : Bool) → (if b && (row.parts == row.behind) then other else row) ≡ row
    go true = ap (λ (e : Bool). if e then other else row) (ne_eqb row.parts row.behind apart)
    go false = refl

settled_switch : (row : Row) → row.is_operator ≡ true → row.parts ≡ row.behind → settled row ≡ record row { depth = row.depth - 1; height = more (max row.height row.left); left = 0; is_operator = false }
unfolding settled
settled_switch row is at =
    let other : Row = record row { depth = row.depth - 1; height = more (max row.height row.left); left = 0; is_operator = false } in
    ap (λ (b : Bool). if b && (row.parts == row.behind) then other else row) is ∙ ap (λ (e : Bool). if e then other else row) (eq-eqb row.parts row.behind at)

-- a row of an operator with so many parts in front of those behind its right operand
pub record IsOperator (back : List Symbol) (count : ℕ) (row : Row) : Type 0 where
  pub is : row.is_operator ≡ true
  pub behind : row.behind ≡ length back
  pub parts : row.parts ≡ count + length back

abbrev pub Stands : List Symbol → List Symbol → Row → Type 0
Stands [] back row = (settled row).is_operator ≡ false
Stands (s ∷ front) back row = IsOperator back (suc (length front)) row

-- what is known of the height behind the parts of such a row
abbrev pub Read : List Symbol → List Symbol → List Value → Row → ℕ → Type 0
Read [] back xs row b = Rows back xs (settled row).height b
Read (s ∷ front) back xs row b = Sided (s ∷ front) back xs row.left row.height b

operator_stands : (front back : List Symbol) (row : Row) → IsOperator back (length front) row → Stands front back row
operator_stands [] back row is = ap (λ (e : Row). e.is_operator) (settled_switch row is.is (omega (arith, is.parts, is.behind)))
operator_stands (s ∷ front) back row is = is

operator_read : (front back : List Symbol) (xs : List Value) (row : Row) (b : ℕ) → IsOperator back (length front) row → Read front back xs row b → Sided front back xs row.left row.height b
operator_read [] back xs row b is w = subst (λ (e : Row). Rows back xs e.height b) (settled_switch row is.is (omega (arith, is.parts, is.behind))) w
operator_read (s ∷ front) back xs row b is w = w

pub ended-operator : (row : Row) (rule : Rule) (inner : Row) → (ended row rule inner).is_operator ≡ row.is_operator
unfolding ended
ended-operator row rule inner = go (behind rule)
  where
    go : (o : Option ℕ) → (ended_by row inner.height (is_construct rule) o).is_operator ≡ row.is_operator
    go None = refl
    go (Some n) = refl

ended-behind : (row : Row) (rule : Rule) (inner : Row) → (ended row rule inner).behind ≡ row.behind
unfolding ended
ended-behind row rule inner = go (behind rule)
  where
    go : (o : Option ℕ) → (ended_by row inner.height (is_construct rule) o).behind ≡ row.behind
    go None = refl
    go (Some n) = refl

ended-left : (row : Row) (rule : Rule) (inner : Row) → (ended row rule inner).left ≡ row.left
unfolding ended
ended-left row rule inner = go (behind rule)
  where
    go : (o : Option ℕ) → (ended_by row inner.height (is_construct rule) o).left ≡ row.left
    go None = refl
    go (Some n) = refl

begun_stands : (rule : Rule) (now : Row) → Stands (front_of rule) (back_of rule) (begun now rule)
unfolding begun behind production settled
begun_stands r.Power now = record { is = refl; behind = refl; parts = refl }
begun_stands r.Times now = record { is = refl; behind = refl; parts = refl }
begun_stands r.Divide now = record { is = refl; behind = refl; parts = refl }
begun_stands r.Remainder now = record { is = refl; behind = refl; parts = refl }
begun_stands r.Plus now = record { is = refl; behind = refl; parts = refl }
begun_stands r.Minus now = record { is = refl; behind = refl; parts = refl }
begun_stands r.ShiftLeft now = record { is = refl; behind = refl; parts = refl }
begun_stands r.ShiftRight now = record { is = refl; behind = refl; parts = refl }
begun_stands r.ShiftLeftSigned now = record { is = refl; behind = refl; parts = refl }
begun_stands r.ShiftRightSigned now = record { is = refl; behind = refl; parts = refl }
begun_stands r.Less now = record { is = refl; behind = refl; parts = refl }
begun_stands r.LessEqual now = record { is = refl; behind = refl; parts = refl }
begun_stands r.Greater now = record { is = refl; behind = refl; parts = refl }
begun_stands r.GreaterEqual now = record { is = refl; behind = refl; parts = refl }
begun_stands r.Equal now = record { is = refl; behind = refl; parts = refl }
begun_stands r.Unequal now = record { is = refl; behind = refl; parts = refl }
begun_stands r.CaseEqual now = record { is = refl; behind = refl; parts = refl }
begun_stands r.CaseUnequal now = record { is = refl; behind = refl; parts = refl }
begun_stands r.BitAnd now = record { is = refl; behind = refl; parts = refl }
begun_stands r.BitXor now = record { is = refl; behind = refl; parts = refl }
begun_stands r.BitXnor now = record { is = refl; behind = refl; parts = refl }
begun_stands r.BitOr now = record { is = refl; behind = refl; parts = refl }
begun_stands r.LogicalAnd now = record { is = refl; behind = refl; parts = refl }
begun_stands r.LogicalOr now = record { is = refl; behind = refl; parts = refl }
begun_stands r.SomeCondition now = record { is = refl; behind = refl; parts = refl }
begun_stands _ now = refl

-- What a production makes of a row

chained_nest : (kind : Kind) (x : Value) → is_chained kind ≡ true → nest kind x ≡ 0
unfolding nest is_chained
chained_nest k.PowerChain x h = refl
chained_nest k.ProductChain x h = refl
chained_nest k.SumChain x h = refl
chained_nest k.ShiftChain x h = refl
chained_nest k.RelationChain x h = refl
chained_nest k.EqualityChain x h = refl
chained_nest k.AndChain x h = refl
chained_nest k.XorChain x h = refl
chained_nest k.OrChain x h = refl
chained_nest k.LogicalAndChain x h = refl
chained_nest k.LogicalOrChain x h = refl
chained_nest k.ConditionPart x h = refl
chained_nest _ x h = absurd cc

binary_part : (token : Symbol) (closer : List Symbol) (own : Kind) (op : BinaryOperator) (ms : List Value) (left b : ℕ) → all_chained closer ≡ true → is_chained own ≡ true → Sided (token ∷ Of k.Operand ∷ closer) (Of own ∷ []) ms left 0 b → IsPart own (v.Chain (linked (span_of (first ms)) op (expr_of (first (rest ms))) (rest (rest ms)))) left b
unfolding first rest extended nest
binary_part token closer own op [] left b h i w = absurd w
binary_part token closer own op (t ∷ []) left b h i w = absurd w.others
binary_part token closer own op (t ∷ x ∷ zs) left b h i w =
    let made = v.Chain (linked (span_of t) op (expr_of x) zs) in
    let none : nest own made ≡ 0 = chained_nest own made i in
    let right : min (expr_nest (expr_of x)) 201 ≤ w.others.height = w.others.part.covers in
    record {
      grows = sided_grow (token ∷ Of k.Operand ∷ closer) (Of own ∷ []) (t ∷ x ∷ zs) left 0 b w;
      covers = omega (arith, none);
      extends = λ is e low. linked_high closer own zs (span_of t) op (expr_of x) e left w.others.height b h i right low w.others.others;
    }

branches_part : (ms : List Value) (left b : ℕ) → Sided (Is c.Question ∷ Of k.Expression ∷ Is c.Colon ∷ Of k.Expression ∷ []) [] ms left 0 b → IsPart k.ConditionPart (v.Branches (record { span = span_of (first ms); yes = expr_of (first (rest ms)); no = expr_of (first (rest (rest (rest ms)))) })) left b
unfolding first rest extended nest
branches_part [] left b w = absurd w
branches_part (q ∷ []) left b w = absurd w.others
branches_part (q ∷ y ∷ []) left b w = absurd w.others.others
branches_part (q ∷ y ∷ d ∷ []) left b w = absurd w.others.others.others
branches_part (q ∷ y ∷ d ∷ n ∷ m ∷ ms) left b w = absurd w.others.others.others.others
branches_part (q ∷ y ∷ d ∷ n ∷ []) left b w =
    let one : min (expr_nest (expr_of y)) 201 ≤ w.others.height = w.others.part.covers in
    let on : w.others.height ≤ w.others.others.height = w.others.others.part in
    let further : w.others.others.height ≤ w.others.others.others.height = w.others.others.others.part.grows in
    let other : min (expr_nest (expr_of n)) 201 ≤ w.others.others.others.height = w.others.others.others.part.covers in
    let end : more (max w.others.others.others.height left) ≤ b = w.others.others.others.others in
    record {
      grows = sided_grow (Is c.Question ∷ Of k.Expression ∷ Is c.Colon ∷ Of k.Expression ∷ []) [] (q ∷ y ∷ d ∷ n ∷ []) left 0 b w;
      covers = omega arith;
      extends = λ is e low.
          let whole = expr_nest-conditional (span_of q) e (expr_of y) (expr_of n) in
          let deep = more_covers (max (expr_nest e) (max (expr_nest (expr_of y)) (expr_nest (expr_of n)))) (max w.others.others.others.height left) (omega (arith, one, on, further, other, low)) in
          omega (arith, whole, deep, end);
    }

operand_covers : (ms : List Value) (h : ℕ) → Rows (parts_of r.OperandWithChains) ms 0 h → min (nest k.Expression (made r.OperandWithChains ms)) 201 ≤ h
unfolding first rest made made_expression production nest is_chained all_chained
operand_covers [] h w = absurd w
operand_covers (x ∷ xs) h w = operated_high (rest_of) xs (expr_of x) w.height h refl w.part.covers w.others
  where
    rest_of : List Symbol
    rest_of = Of k.PowerChain ∷ Of k.ProductChain ∷ Of k.SumChain ∷ Of k.ShiftChain ∷ Of k.RelationChain ∷ Of k.EqualityChain ∷ Of k.AndChain ∷ Of k.XorChain ∷ Of k.OrChain ∷ Of k.LogicalAndChain ∷ Of k.LogicalOrChain ∷ Of k.ConditionPart ∷ []

operand_high : (ms : List Value) (h : ℕ) → Rows (parts_of r.OperandWithChains) ms 0 h → min (nest (kind_of r.OperandWithChains) (made r.OperandWithChains ms)) 201 ≤ height_of (is_construct r.OperandWithChains) h
unfolding production is_construct
operand_high ms h w = operand_covers ms h w

only_operand : (rule : Rule) → is_plain rule ≡ false → rule ≡ r.OperandWithChains
unfolding is_plain
only_operand r.OperandWithChains h = refl
only_operand _ h = absurd cc

plain_covers : (rule : Rule) (ms : List Value) (h : ℕ) → Rows (parts_of rule) ms 0 h → min (nest (kind_of rule) (made rule ms)) 201 ≤ height_of (is_construct rule) h
plain_covers rule ms h w = go (is_plain rule) refl (cases_lt 200 h)
  where
    go : (b : Bool) → is_plain rule ≡ b → (200 < h) ⊎ (h ≤ 200) → min (nest (kind_of rule) (made rule ms)) 201 ≤ height_of (is_construct rule) h
    go b is (inl high) = let up : h ≤ height_of (is_construct rule) h = height_grows (is_construct rule) h in omega (arith, high, up)
    go true is (inr low) =
        let deep : nest (kind_of rule) (made rule ms) ≤ grown (is_construct rule) h = rule_nest rule ms h is (subst (λ (xs : List Value). AllWithin (parts_of rule) xs h) (append-nil ms) (rows_within (parts_of rule) ms [] 0 h low w)) in
        let same : height_of (is_construct rule) h ≡ grown (is_construct rule) h = height_grown (is_construct rule) h low in
        omega (arith, deep, same)
    go false is (inr low) = subst (λ (p : Rule). Rows (parts_of p) ms 0 h → min (nest (kind_of p) (made p ms)) 201 ≤ height_of (is_construct p) h) (sym (only_operand rule is)) (operand_high ms h) w

-- a chain that goes on no further
plain_chain : (rule : Rule) (ms : List Value) (left : Expr) → behind rule ≡ None → is_chained (kind_of rule) ≡ true → extended left (made rule ms) ≡ left
unfolding made production is_chained behind extended
plain_chain r.NoPower ms left h i = refl
plain_chain r.NoProduct ms left h i = refl
plain_chain r.NoSum ms left h i = refl
plain_chain r.NoShift ms left h i = refl
plain_chain r.NoRelation ms left h i = refl
plain_chain r.NoEquality ms left h i = refl
plain_chain r.NoAnd ms left h i = refl
plain_chain r.NoXor ms left h i = refl
plain_chain r.NoOr ms left h i = refl
plain_chain r.NoLogicalAnd ms left h i = refl
plain_chain r.NoLogicalOr ms left h i = refl
plain_chain r.NoCondition ms left h i = refl
plain_chain _ ms left h i = absurd cc

plain_part : (rule : Rule) (ms : List Value) (before h : ℕ) → behind rule ≡ None → Rows (parts_of rule) ms 0 h → IsPart (kind_of rule) (made rule ms) before (max before (height_of (is_construct rule) h))
plain_part rule ms before h none w =
    let covers : min (nest (kind_of rule) (made rule ms)) 201 ≤ height_of (is_construct rule) h = plain_covers rule ms h w in
    record {
      grows = omega arith;
      covers = omega (arith, covers);
      extends = λ is left low. subst (λ (e : Expr). min (expr_nest e) 201 ≤ max before (height_of (is_construct rule) h)) (sym (plain_chain rule ms left none is)) (omega (arith, low));
    }

operator_part : (rule : Rule) (ms : List Value) (now : Row) (h n : ℕ) → behind rule ≡ Some n → Read (front_of rule) (back_of rule) ms (begun now rule) h → IsPart (kind_of rule) (made rule ms) now.height (ended_by now h (is_construct rule) (behind rule)).height
unfolding made made_expression production behind begun is_construct all_chained is_chained
operator_part r.Power ms now h n is w = binary_part (Is c.Power) ([]) k.PowerChain o.Power ms now.height h refl refl w
operator_part r.Times ms now h n is w = binary_part (Is c.Star) (Of k.PowerChain ∷ []) k.ProductChain o.Multiply ms now.height h refl refl w
operator_part r.Divide ms now h n is w = binary_part (Is c.Slash) (Of k.PowerChain ∷ []) k.ProductChain o.Divide ms now.height h refl refl w
operator_part r.Remainder ms now h n is w = binary_part (Is c.Percent) (Of k.PowerChain ∷ []) k.ProductChain o.Modulus ms now.height h refl refl w
operator_part r.Plus ms now h n is w = binary_part (Is c.Plus) (Of k.PowerChain ∷ Of k.ProductChain ∷ []) k.SumChain o.Add ms now.height h refl refl w
operator_part r.Minus ms now h n is w = binary_part (Is c.Minus) (Of k.PowerChain ∷ Of k.ProductChain ∷ []) k.SumChain o.Subtract ms now.height h refl refl w
operator_part r.ShiftLeft ms now h n is w = binary_part (Is c.ShiftLeft) (Of k.PowerChain ∷ Of k.ProductChain ∷ Of k.SumChain ∷ []) k.ShiftChain o.LogicalShiftLeft ms now.height h refl refl w
operator_part r.ShiftRight ms now h n is w = binary_part (Is c.ShiftRight) (Of k.PowerChain ∷ Of k.ProductChain ∷ Of k.SumChain ∷ []) k.ShiftChain o.LogicalShiftRight ms now.height h refl refl w
operator_part r.ShiftLeftSigned ms now h n is w = binary_part (Is c.ShiftLeftSigned) (Of k.PowerChain ∷ Of k.ProductChain ∷ Of k.SumChain ∷ []) k.ShiftChain o.ArithmeticShiftLeft ms now.height h refl refl w
operator_part r.ShiftRightSigned ms now h n is w = binary_part (Is c.ShiftRightSigned) (Of k.PowerChain ∷ Of k.ProductChain ∷ Of k.SumChain ∷ []) k.ShiftChain o.ArithmeticShiftRight ms now.height h refl refl w
operator_part r.Less ms now h n is w = binary_part (Is c.Less) (Of k.PowerChain ∷ Of k.ProductChain ∷ Of k.SumChain ∷ Of k.ShiftChain ∷ []) k.RelationChain o.Less ms now.height h refl refl w
operator_part r.LessEqual ms now h n is w = binary_part (Is c.LessEqual) (Of k.PowerChain ∷ Of k.ProductChain ∷ Of k.SumChain ∷ Of k.ShiftChain ∷ []) k.RelationChain o.LessEqual ms now.height h refl refl w
operator_part r.Greater ms now h n is w = binary_part (Is c.Greater) (Of k.PowerChain ∷ Of k.ProductChain ∷ Of k.SumChain ∷ Of k.ShiftChain ∷ []) k.RelationChain o.Greater ms now.height h refl refl w
operator_part r.GreaterEqual ms now h n is w = binary_part (Is c.GreaterEqual) (Of k.PowerChain ∷ Of k.ProductChain ∷ Of k.SumChain ∷ Of k.ShiftChain ∷ []) k.RelationChain o.GreaterEqual ms now.height h refl refl w
operator_part r.Equal ms now h n is w = binary_part (Is c.Equal) (Of k.PowerChain ∷ Of k.ProductChain ∷ Of k.SumChain ∷ Of k.ShiftChain ∷ Of k.RelationChain ∷ []) k.EqualityChain o.LogicalEquality ms now.height h refl refl w
operator_part r.Unequal ms now h n is w = binary_part (Is c.Unequal) (Of k.PowerChain ∷ Of k.ProductChain ∷ Of k.SumChain ∷ Of k.ShiftChain ∷ Of k.RelationChain ∷ []) k.EqualityChain o.LogicalInequality ms now.height h refl refl w
operator_part r.CaseEqual ms now h n is w = binary_part (Is c.CaseEqual) (Of k.PowerChain ∷ Of k.ProductChain ∷ Of k.SumChain ∷ Of k.ShiftChain ∷ Of k.RelationChain ∷ []) k.EqualityChain o.CaseEquality ms now.height h refl refl w
operator_part r.CaseUnequal ms now h n is w = binary_part (Is c.CaseUnequal) (Of k.PowerChain ∷ Of k.ProductChain ∷ Of k.SumChain ∷ Of k.ShiftChain ∷ Of k.RelationChain ∷ []) k.EqualityChain o.CaseInequality ms now.height h refl refl w
operator_part r.BitAnd ms now h n is w = binary_part (Is c.And) (Of k.PowerChain ∷ Of k.ProductChain ∷ Of k.SumChain ∷ Of k.ShiftChain ∷ Of k.RelationChain ∷ Of k.EqualityChain ∷ []) k.AndChain o.BitwiseAnd ms now.height h refl refl w
operator_part r.BitXor ms now h n is w = binary_part (Is c.Xor) (Of k.PowerChain ∷ Of k.ProductChain ∷ Of k.SumChain ∷ Of k.ShiftChain ∷ Of k.RelationChain ∷ Of k.EqualityChain ∷ Of k.AndChain ∷ []) k.XorChain o.BitwiseXor ms now.height h refl refl w
operator_part r.BitXnor ms now h n is w = binary_part (Is c.Xnor) (Of k.PowerChain ∷ Of k.ProductChain ∷ Of k.SumChain ∷ Of k.ShiftChain ∷ Of k.RelationChain ∷ Of k.EqualityChain ∷ Of k.AndChain ∷ []) k.XorChain o.BitwiseXnor ms now.height h refl refl w
operator_part r.BitOr ms now h n is w = binary_part (Is c.Bar) (Of k.PowerChain ∷ Of k.ProductChain ∷ Of k.SumChain ∷ Of k.ShiftChain ∷ Of k.RelationChain ∷ Of k.EqualityChain ∷ Of k.AndChain ∷ Of k.XorChain ∷ []) k.OrChain o.BitwiseOr ms now.height h refl refl w
operator_part r.LogicalAnd ms now h n is w = binary_part (Is c.LogicalAnd) (Of k.PowerChain ∷ Of k.ProductChain ∷ Of k.SumChain ∷ Of k.ShiftChain ∷ Of k.RelationChain ∷ Of k.EqualityChain ∷ Of k.AndChain ∷ Of k.XorChain ∷ Of k.OrChain ∷ []) k.LogicalAndChain o.LogicalAnd ms now.height h refl refl w
operator_part r.LogicalOr ms now h n is w = binary_part (Is c.LogicalOr) (Of k.PowerChain ∷ Of k.ProductChain ∷ Of k.SumChain ∷ Of k.ShiftChain ∷ Of k.RelationChain ∷ Of k.EqualityChain ∷ Of k.AndChain ∷ Of k.XorChain ∷ Of k.OrChain ∷ Of k.LogicalAndChain ∷ []) k.LogicalOrChain o.LogicalOr ms now.height h refl refl w
operator_part r.SomeCondition ms now h n is w = branches_part ms now.height h w
operator_part _ ms now h n is w = absurd cc

node_part : (rule : Rule) (ms : List Value) (now : Row) (h : ℕ) → Read (front_of rule) (back_of rule) ms (begun now rule) h → IsPart (kind_of rule) (made rule ms) now.height (ended_by now h (is_construct rule) (behind rule)).height
unfolding begun settled
node_part rule ms now h w = go (behind rule) refl
  where
    go : (o : Option ℕ) → behind rule ≡ o → IsPart (kind_of rule) (made rule ms) now.height (ended_by now h (is_construct rule) (behind rule)).height
    go None is =
        let read : Read (front_in None (parts_of rule)) (back_in None (parts_of rule)) ms (begun_by now (length (parts_of rule)) (is_construct rule) None) h =
        subst (λ (o : Option ℕ). Read (front_in o (parts_of rule)) (back_in o (parts_of rule)) ms (begun_by now (length (parts_of rule)) (is_construct rule) o) h) is w in
        subst (λ (o : Option ℕ). IsPart (kind_of rule) (made rule ms) now.height (ended_by now h (is_construct rule) o).height) (sym is) (plain_part rule ms now.height h is read)
    go (Some n) is = operator_part rule ms now h n is w

pub leaf_part : (s : Symbol) (t : Classed) (x : Option Feature) (y : Value) (h : ℕ) → Fits s t x → Grows s y h h
leaf_part (Is c) t x y h fits = omega arith
leaf_part (Refused c f) t x y h fits = omega arith
leaf_part (Of k) t x y h fits = absurd fits

pub part_of : (s : Symbol) (k : Kind) (x : Value) (a b : ℕ) → s ≡ Of k → IsPart k x a b → Grows s x a b
part_of s k x a b is part = subst (λ (q : Symbol). Grows q x a b) (sym is) part

-- the height behind a row of trees
pub walk : (ts : List Token) (front back : List Symbol) (f : Trees) (after : List Classed) (row : Row) → Stands front back row → Derives (front ++ back) f after → Read front back (means ts f) row (depths_in row f).1.height
unfolding ended
walk ts [] [] Nil after row stands d = omega arith
walk ts [] [] (Leaf t x f) after row stands d = absurd d
walk ts [] [] (Node rule parts f) after row stands d = absurd d
walk ts [] (s ∷ back) Nil after row stands d = absurd d
walk ts [] (s ∷ back) (Leaf t x f) after row stands d =
    let now = settled row in
    let next : Row = record now { parts = now.parts - 1 } in
    let still : settled next ≡ next = settled_plain next stands in
    let others = walk ts [] back f after next (ap (λ (e : Row). e.is_operator) still ∙ stands) d.1 in
    record {
      height = now.height;
      part = leaf_part s t x (leaf ts t) now.height d.0;
      others = subst (λ (e : Row). Rows back (means ts f) e.height (depths_in next f).1.height) still others;
    }
walk ts [] (s ∷ back) (Node rule parts f) after row stands d =
    let now = settled row in
    let inner = depths_in (begun now rule) parts in
    let next : Row = ended now rule inner.1 in
    let read = walk ts (front_of rule) (back_of rule) parts (tokens_of f ++ after) (begun now rule) (begun_stands rule now) (subst (λ (ss : List Symbol). Derives ss parts (tokens_of f ++ after)) (sym (front_and_back (behind rule) (parts_of rule))) d.2) in
    let plain : next.is_operator ≡ false = ended-operator now rule inner.1 ∙ stands in
    let still : settled next ≡ next = settled_plain next plain in
    let others = walk ts [] back f after next (ap (λ (e : Row). e.is_operator) still ∙ plain) d.3 in
    record {
      height = next.height;
      part = part_of s (kind_of rule) (made rule (means ts parts)) now.height next.height d.0 (node_part rule (means ts parts) now inner.1.height read);
      others = subst (λ (e : Row). Rows back (means ts f) e.height (depths_in next f).1.height) still others;
    }
walk ts (s ∷ front) back Nil after row stands d = absurd d
walk ts (s ∷ front) back (Leaf t x f) after row stands d =
    let now = settled row in
    let next : Row = record now { parts = now.parts - 1 } in
    let same : now ≡ row = settled_open row (λ at. absurd (omega (arith, at, stands.parts, stands.behind))) in
    let sized : now.parts ≡ row.parts = ap (λ (e : Row). e.parts) same in
    let size : next.parts ≡ length front + length back = omega (arith, sized, stands.parts) in
    let is : IsOperator back (length front) next = record { is = ap (λ (e : Row). e.is_operator) same ∙ stands.is; behind = ap (λ (e : Row). e.behind) same ∙ stands.behind; parts = size } in
    let others = operator_read front back (means ts f) next (depths_in next f).1.height is (walk ts front back f after next (operator_stands front back next is) d.1) in
    record {
      height = row.height;
      part = leaf_part s t x (leaf ts t) row.height d.0;
      others = subst (λ (e : Row). Sided front back (means ts f) e.left e.height (depths_in next f).1.height) same others;
    }
walk ts (s ∷ front) back (Node rule parts f) after row stands d =
    let now = settled row in
    let inner = depths_in (begun now rule) parts in
    let next : Row = ended now rule inner.1 in
    let read = walk ts (front_of rule) (back_of rule) parts (tokens_of f ++ after) (begun now rule) (begun_stands rule now) (subst (λ (ss : List Symbol). Derives ss parts (tokens_of f ++ after)) (sym (front_and_back (behind rule) (parts_of rule))) d.2) in
    let same : now ≡ row = settled_open row (λ at. absurd (omega (arith, at, stands.parts, stands.behind))) in
    let sized : now.parts ≡ row.parts = ap (λ (e : Row). e.parts) same in
    let fewer : next.parts ≡ now.parts - 1 = ended-parts now rule inner.1 in
    let size : next.parts ≡ length front + length back = omega (arith, fewer, sized, stands.parts) in
    let is : IsOperator back (length front) next = record { is = ended-operator now rule inner.1 ∙ ap (λ (e : Row). e.is_operator) same ∙ stands.is; behind = ended-behind now rule inner.1 ∙ ap (λ (e : Row). e.behind) same ∙ stands.behind; parts = size } in
    let others = operator_read front back (means ts f) next (depths_in next f).1.height is (walk ts front back f after next (operator_stands front back next is) d.3) in
    let left : next.left ≡ row.left = ended-left now rule inner.1 ∙ ap (λ (e : Row). e.left) same in
    record {
      height = next.height;
      part = subst (λ (e : Row). Grows s (made rule (means ts parts)) e.height next.height) same (part_of s (kind_of rule) (made rule (means ts parts)) now.height next.height d.0 (node_part rule (means ts parts) now inner.1.height read));
      others = subst (λ (n : ℕ). Sided front back (means ts f) n next.height (depths_in next f).1.height) left others;
    }

-- a tree in a row
pub node_grows : (ts : List Token) (rule : Rule) (parts : Trees) (after : List Classed) (now : Row) → Derives (parts_of rule) parts after → IsPart (kind_of rule) (made rule (means ts parts)) now.height (ended now rule (depths_in (begun now rule) parts).1).height
unfolding ended
node_grows ts rule parts after now d =
    node_part rule (means ts parts) now (depths_in (begun now rule) parts).1.height (walk ts (front_of rule) (back_of rule) parts after (begun now rule) (begun_stands rule now) (subst (λ (ss : List Symbol). Derives ss parts after) (sym (front_and_back (behind rule) (parts_of rule))) d))
