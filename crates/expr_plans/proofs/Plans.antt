-- What is planned for an expression of each production, from what is planned for its parts.
use Rattle.expr_plans.proofs.Common.{◌≡◌, ℕ, List, [], ◌∷◌, ◌++◌, Bool, true, false, ◌&&◌, refl, sym, ap, ◌∙◌, take, zero, suc, get_or, ◌<◌, length, arith, append_assoc, Span, Expr, fold-roll-Expr}
use Rattle.expr_plans.proofs.Common.{Fault, Shape, least, earlier, Names, Store, Sense, sense, step, is_empty, binary_features, least_empty, pair_first, Plan, plan, plans, plan_step, all_unsupported}
use Rattle.std.specs.Prelude.{Option, None, Some, is_none}
use Rattle.vlog_syntax.specs.declared.identifier.Number.{Number}
use Rattle.vlog_syntax.specs.declared.identifier.Identifier.{Identifier}
use Rattle.vlog_syntax.specs.declared.operator.UnaryOperator.{UnaryOperator}
use Rattle.vlog_syntax.specs.declared.operator.BinaryOperator.{BinaryOperator}
use Rattle.vlog_syntax.specs.declared.expr.Expr.TheOpen as e
use Rattle.vlog_syntax.specs.declared.expr.Expr.TheVariants as v
use Rattle.vlog_syntax.specs.Places.{first_token, first_step}
use Rattle.vlog_meaning.proofs.Firsts.{least_none}
use Rattle.vlog_meaning.proofs.Settled.{settled}
use Rattle.expr_plans.proofs.Fusion.{fused}

pub plan_number : (names : Names) (n : Number) → plan names (v.Number n) ≡ plan_step names (e.Number n)
plan_number names n = ap (plan names) (sym (v.rolls-Number n)) ∙ fold-roll-Expr Plan (plan_step names) (e.Number n)

pub plan_name : (names : Names) (n : Identifier) → plan names (v.Name n) ≡ plan_step names (e.Name n)
plan_name names n = ap (plan names) (sym (v.rolls-Name n)) ∙ fold-roll-Expr Plan (plan_step names) (e.Name n)

pub plan_bit_select : (names : Names) (n : Identifier) (s : Span) (i : Expr) → plan names (v.BitSelect n s i) ≡ plan_step names (e.BitSelect n s (plan names i))
plan_bit_select names n s i = ap (plan names) (sym (v.rolls-BitSelect n s i)) ∙ fold-roll-Expr Plan (plan_step names) (e.BitSelect n s i)

pub plan_part_select : (names : Names) (n : Identifier) (s : Span) (m : Expr) (l : Expr) → plan names (v.PartSelect n s m l) ≡ plan_step names (e.PartSelect n s (plan names m) (plan names l))
plan_part_select names n s m l = ap (plan names) (sym (v.rolls-PartSelect n s m l)) ∙ fold-roll-Expr Plan (plan_step names) (e.PartSelect n s m l)

pub plan_indexed_part_select : (names : Names) (n : Identifier) (s : Span) (b : Expr) (w : Expr) → plan names (v.IndexedPartSelect n s b w) ≡ plan_step names (e.IndexedPartSelect n s (plan names b) (plan names w))
plan_indexed_part_select names n s b w = ap (plan names) (sym (v.rolls-IndexedPartSelect n s b w)) ∙ fold-roll-Expr Plan (plan_step names) (e.IndexedPartSelect n s b w)

pub plan_parenthesized : (names : Names) (s : Span) (i : Expr) → plan names (v.Parenthesized s i) ≡ plan_step names (e.Parenthesized s (plan names i))
plan_parenthesized names s i = ap (plan names) (sym (v.rolls-Parenthesized s i)) ∙ fold-roll-Expr Plan (plan_step names) (e.Parenthesized s i)

pub plan_unary : (names : Names) (s : Span) (op : UnaryOperator) (i : Expr) → plan names (v.Unary s op i) ≡ plan_step names (e.Unary s op (plan names i))
plan_unary names s op i = ap (plan names) (sym (v.rolls-Unary s op i)) ∙ fold-roll-Expr Plan (plan_step names) (e.Unary s op i)

pub plan_binary : (names : Names) (s : Span) (op : BinaryOperator) (i : Expr) (j : Expr) → plan names (v.Binary s op i j) ≡ plan_step names (e.Binary s op (plan names i) (plan names j))
plan_binary names s op i j = ap (plan names) (sym (v.rolls-Binary s op i j)) ∙ fold-roll-Expr Plan (plan_step names) (e.Binary s op i j)

pub plan_conditional : (names : Names) (s : Span) (x : Expr) (i : Expr) (j : Expr) → plan names (v.Conditional s x i j) ≡ plan_step names (e.Conditional s (plan names x) (plan names i) (plan names j))
plan_conditional names s x i j = ap (plan names) (sym (v.rolls-Conditional s x i j)) ∙ fold-roll-Expr Plan (plan_step names) (e.Conditional s x i j)

pub plan_concatenation : (names : Names) (s : Span) (ps : List Expr) → plan names (v.Concatenation s ps) ≡ plan_step names (e.Concatenation s (plans names ps))
plan_concatenation names s ps = ap (plan names) (sym (v.rolls-Concatenation s ps)) ∙ fold-roll-Expr Plan (plan_step names) (e.Concatenation s ps)

pub plan_multiple_concatenation : (names : Names) (s : Span) (k : Expr) (ps : List Expr) → plan names (v.MultipleConcatenation s k ps) ≡ plan_step names (e.MultipleConcatenation s (plan names k) (plans names ps))
plan_multiple_concatenation names s k ps = ap (plan names) (sym (v.rolls-MultipleConcatenation s k ps)) ∙ fold-roll-Expr Plan (plan_step names) (e.MultipleConcatenation s k ps)

pub plan_system_function_call : (names : Names) (n : Identifier) (ps : List Expr) → plan names (v.SystemFunctionCall n ps) ≡ plan_step names (e.SystemFunctionCall n (plans names ps))
plan_system_function_call names n ps = ap (plan names) (sym (v.rolls-SystemFunctionCall n ps)) ∙ fold-roll-Expr Plan (plan_step names) (e.SystemFunctionCall n ps)

-- What is planned says what the expression says, and begins where it begins.

pub plan_sense : (names : Names) (x : Expr) → (plan names x).sense ≡ sense names x
plan_sense names = fused (λ (p : Plan). p.sense) (plan_step names) (step names) (λ y. refl)

pub plan_first : (names : Names) (x : Expr) → (plan names x).first ≡ first_token x
plan_first names = fused (λ (p : Plan). p.first) (plan_step names) first_step (λ y. refl)

-- Tests.

pub none_read : (xs : List Fault) (o : Option Fault) (b : Bool) → o ≡ least xs → b ≡ is_none o → b ≡ is_empty xs
none_read [] o b is test = test ∙ ap is_none (is ∙ sym least_empty)
none_read (x ∷ xs) o b is test = go o is test
  where
    go : (o : Option Fault) → o ≡ least (x ∷ xs) → b ≡ is_none o → b ≡ false
    go (Some f) is test = test
    go None is test = let none = least_none _ (sym is) in cc

-- where nothing is found wrong, nothing is
pub none_told : (xs : List Fault) (o : Option Fault) (b : Bool) → o ≡ least xs → b ≡ is_none o → b ≡ true → xs ≡ []
none_told xs None b is test yes_told = least_none xs (sym is)
none_told xs (Some f) b is test yes_told = cc

pub none_wrong : (xs : List Fault) (o : Option Fault) (b : Bool) → o ≡ least xs → b ≡ is_none o → b ≡ is_empty xs
none_wrong xs None b is test = test ∙ ap is_empty (sym (least_none xs (sym is)))
none_wrong [] (Some f) b is test = let none : Some f ≡ None = is ∙ sym least_empty in cc
none_wrong (x ∷ xs) (Some f) b is test = test

pub both_empty : {A : Type 0} (xs ys : List A) → is_empty (xs ++ ys) ≡ is_empty xs && is_empty ys
both_empty [] ys = refl
both_empty (x ∷ xs) ys = refl

empty_is : {A : Type 0} (xs : List A) → is_empty xs ≡ true → xs ≡ []
empty_is [] e = refl
empty_is (x ∷ xs) e = cc

-- a constant has one value
pub constant_value : (names : Names) (x : Expr) (s t : Store) (c : Shape) → is_empty (sense names x).signals ≡ true → (sense names x).value s c ≡ (sense names x).value t c
constant_value names x s t c e = let quiet = empty_is (sense names x).signals e in settled names x quiet s c ∙ sym (settled names x quiet t c)

-- What is not supported in an expression, from its parts.

pub none_unsupported : (names : Names) (x : Expr) (p : Plan) → plan names x ≡ p → p.unsupported ≡ [] → None ≡ least (plan names x).unsupported
none_unsupported names x p is none = least_empty ∙ ap least (sym (ap (λ (q : Plan). q.unsupported) is ∙ none))

pub index_unsupported : (names : Names) (features : Sense → List Fault) (x i : Expr) (r a b : Option Fault) → (plan names x).unsupported ≡ features (plan names i).sense ++ (plan names i).unsupported → r ≡ earlier a b → a ≡ least (features (sense names i)) → b ≡ least (plan names i).unsupported → r ≡ least (plan names x).unsupported
index_unsupported names features x i r a b is r_is a_is b_is =
    pair_first (features (sense names i)) (plan names i).unsupported a b r r_is a_is b_is
    ∙ ap least (ap (λ (q : Sense). features q ++ (plan names i).unsupported) (sym (plan_sense names i)) ∙ sym is)

pub pair_unsupported : (names : Names) (s : Span) (op : BinaryOperator) (x i j : Expr) (r d m a b : Option Fault) → x ≡ v.Binary s op i j → r ≡ earlier d m → m ≡ earlier a b → d ≡ least (binary_features s op (sense names i) (sense names j)) → a ≡ least (plan names i).unsupported → b ≡ least (plan names j).unsupported → r ≡ least (plan names x).unsupported
pair_unsupported names s op x i j r d m a b is r_is m_is d_is a_is b_is =
    pair_first (binary_features s op (sense names i) (sense names j)) ((plan names i).unsupported ++ (plan names j).unsupported) d m r r_is d_is (pair_first (plan names i).unsupported (plan names j).unsupported a b m m_is a_is b_is)
    ∙ ap least (ap (λ (q : Sense). binary_features s op q (sense names j) ++ ((plan names i).unsupported ++ (plan names j).unsupported)) (sym (plan_sense names i)) ∙ ap (λ (q : Sense). binary_features s op (plan names i).sense q ++ ((plan names i).unsupported ++ (plan names j).unsupported)) (sym (plan_sense names j)) ∙ sym (ap (λ (q : Plan). q.unsupported) (ap (plan names) is ∙ plan_binary names s op i j)))

-- one expression more
pub plans_take : (names : Names) (es : List Expr) (k : ℕ) (x : Expr) → x ≡ get_or es k x → k < length es → all_unsupported (plans names (take (suc k) es)) ≡ all_unsupported (plans names (take k es)) ++ (plan names x).unsupported
plans_take names [] k x is h = absurd (omega arith)
plans_take names (e ∷ es) zero x is h = append_nil (plan names e).unsupported ∙ ap (λ (y : Expr). (plan names y).unsupported) (sym is)
  where
    append_nil : (l : List Fault) → l ++ [] ≡ l
    append_nil [] = refl
    append_nil (y ∷ l) = ap (λ (t : List Fault). y ∷ t) (append_nil l)
plans_take names (e ∷ es) (suc k) x is h = ap (λ (l : List Fault). (plan names e).unsupported ++ l) (plans_take names es k x is (omega arith)) ∙ sym (append_assoc (plan names e).unsupported (all_unsupported (plans names (take k es))) (plan names x).unsupported)
