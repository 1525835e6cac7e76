-- What is laid of an expression of each production, from what is laid of its parts.
use Rattle.elab_expr.proofs.Common.{◌≡◌, Bool, true, false, List, refl, sym, ap, ◌∙◌, if◌then◌else◌, Span, Number, Identifier, UnaryOperator, BinaryOperator, Expr, Expr-F, roll-Expr, first_token}
use Rattle.elab_expr.proofs.Common.{first_step, Shape, Names, nothing, Sense, sense, step, is_empty, Building, Laid, Layout, layout, layouts, layout_step, lay, lay_step, showing, number_bits}
use Rattle.vlog_syntax.specs.declared.expr.Expr.TheOpen as e
use Rattle.vlog_syntax.specs.declared.expr.Expr.TheVariants as v
use Rattle.vlog_syntax.specs.declared.expr.Expr.TheFolds.{fold-roll-Expr, ind-Expr, map-Expr}
use Rattle.expr_plans.proofs.Fusion.{fused}

-- A layout says what the expression says, and begins where it begins.

pub layout_sense : (names : Names) (x : Expr) → (layout names x).sense ≡ sense names x
layout_sense names = fused (λ (p : Layout). p.sense) (layout_step names) (step names) (λ y. refl)

pub layout_first : (names : Names) (x : Expr) → (layout names x).first ≡ first_token x
layout_first names = fused (λ (p : Layout). p.first) (layout_step names) first_step (λ y. refl)

-- Constants, and what is none.

pub lay_constant : (names : Names) (x : Expr) (c : Shape) (b : Building) → is_empty (sense names x).signals ≡ true → lay names x c b ≡ showing b (number_bits c.width ((sense names x).value nothing c))
lay_constant names x c b quiet =
    ind-Expr Goal (λ y w is. λ still. ap (λ (p : Layout). p.lay c b) (fold-roll-Expr Layout (layout_step names) y)
    ∙ chosen (layout_step names (map-Expr Expr Layout (layout names) y)).sense (lay_step names (map-Expr Expr Layout (layout names) y)) (ap (λ (q : Sense). is_empty q.signals) (said y) ∙ still)
    ∙ ap (λ (q : Sense). showing b (number_bits c.width (q.value nothing c))) (said y)) x quiet
  where
    Goal : Expr → Type 0
    Goal z = is_empty (sense names z).signals ≡ true → lay names z c b ≡ showing b (number_bits c.width ((sense names z).value nothing c))

    said : (y : Expr-F Expr) → (layout_step names (map-Expr Expr Layout (layout names) y)).sense ≡ sense names (roll-Expr y)
    said y = sym (ap (λ (p : Layout). p.sense) (fold-roll-Expr Layout (layout_step names) y)) ∙ layout_sense names (roll-Expr y)

    chosen : (q : Sense) (f : Sense → Shape → Building → Laid) → is_empty q.signals ≡ true → (if is_empty q.signals then showing b (number_bits c.width (q.value nothing c)) else f q c b) ≡ showing b (number_bits c.width (q.value nothing c))
    chosen q f t = ap (λ (k : Bool). if k then showing b (number_bits c.width (q.value nothing c)) else f q c b) t

pub lay_varies : (names : Names) (x : Expr) (y : Expr-F Layout) (c : Shape) (b : Building) → layout names x ≡ layout_step names y → is_empty (sense names x).signals ≡ false → lay names x c b ≡ lay_step names y (sense names x) c b
lay_varies names x y c b is varies =
    ap (λ (p : Layout). p.lay c b) is
    ∙ ap (λ (k : Bool). if k then showing b (number_bits c.width ((layout_step names y).sense.value nothing c)) else lay_step names y (layout_step names y).sense c b) (ap (λ (q : Sense). is_empty q.signals) said ∙ varies)
    ∙ ap (λ (q : Sense). lay_step names y q c b) said
  where
    said : (layout_step names y).sense ≡ sense names x
    said = sym (ap (λ (p : Layout). p.sense) is) ∙ layout_sense names x

-- Productions.

pub layout_number : (names : Names) (n : Number) → layout names (v.Number n) ≡ layout_step names (e.Number n)
layout_number names n = ap (layout names) (sym (v.rolls-Number n)) ∙ fold-roll-Expr Layout (layout_step names) (e.Number n)

pub layout_name : (names : Names) (n : Identifier) → layout names (v.Name n) ≡ layout_step names (e.Name n)
layout_name names n = ap (layout names) (sym (v.rolls-Name n)) ∙ fold-roll-Expr Layout (layout_step names) (e.Name n)

pub layout_bit_select : (names : Names) (n : Identifier) (s : Span) (i : Expr) → layout names (v.BitSelect n s i) ≡ layout_step names (e.BitSelect n s (layout names i))
layout_bit_select names n s i = ap (layout names) (sym (v.rolls-BitSelect n s i)) ∙ fold-roll-Expr Layout (layout_step names) (e.BitSelect n s i)

pub layout_part_select : (names : Names) (n : Identifier) (s : Span) (m l : Expr) → layout names (v.PartSelect n s m l) ≡ layout_step names (e.PartSelect n s (layout names m) (layout names l))
layout_part_select names n s m l = ap (layout names) (sym (v.rolls-PartSelect n s m l)) ∙ fold-roll-Expr Layout (layout_step names) (e.PartSelect n s m l)

pub layout_indexed_part_select : (names : Names) (n : Identifier) (s : Span) (b w : Expr) → layout names (v.IndexedPartSelect n s b w) ≡ layout_step names (e.IndexedPartSelect n s (layout names b) (layout names w))
layout_indexed_part_select names n s b w = ap (layout names) (sym (v.rolls-IndexedPartSelect n s b w)) ∙ fold-roll-Expr Layout (layout_step names) (e.IndexedPartSelect n s b w)

pub layout_parenthesized : (names : Names) (s : Span) (i : Expr) → layout names (v.Parenthesized s i) ≡ layout_step names (e.Parenthesized s (layout names i))
layout_parenthesized names s i = ap (layout names) (sym (v.rolls-Parenthesized s i)) ∙ fold-roll-Expr Layout (layout_step names) (e.Parenthesized s i)

pub layout_unary : (names : Names) (s : Span) (op : UnaryOperator) (i : Expr) → layout names (v.Unary s op i) ≡ layout_step names (e.Unary s op (layout names i))
layout_unary names s op i = ap (layout names) (sym (v.rolls-Unary s op i)) ∙ fold-roll-Expr Layout (layout_step names) (e.Unary s op i)

pub layout_binary : (names : Names) (s : Span) (op : BinaryOperator) (i j : Expr) → layout names (v.Binary s op i j) ≡ layout_step names (e.Binary s op (layout names i) (layout names j))
layout_binary names s op i j = ap (layout names) (sym (v.rolls-Binary s op i j)) ∙ fold-roll-Expr Layout (layout_step names) (e.Binary s op i j)

pub layout_conditional : (names : Names) (s : Span) (x i j : Expr) → layout names (v.Conditional s x i j) ≡ layout_step names (e.Conditional s (layout names x) (layout names i) (layout names j))
layout_conditional names s x i j = ap (layout names) (sym (v.rolls-Conditional s x i j)) ∙ fold-roll-Expr Layout (layout_step names) (e.Conditional s x i j)

pub layout_concatenation : (names : Names) (s : Span) (ps : List Expr) → layout names (v.Concatenation s ps) ≡ layout_step names (e.Concatenation s (layouts names ps))
layout_concatenation names s ps = ap (layout names) (sym (v.rolls-Concatenation s ps)) ∙ fold-roll-Expr Layout (layout_step names) (e.Concatenation s ps)

pub layout_multiple_concatenation : (names : Names) (s : Span) (k : Expr) (ps : List Expr) → layout names (v.MultipleConcatenation s k ps) ≡ layout_step names (e.MultipleConcatenation s (layout names k) (layouts names ps))
layout_multiple_concatenation names s k ps = ap (layout names) (sym (v.rolls-MultipleConcatenation s k ps)) ∙ fold-roll-Expr Layout (layout_step names) (e.MultipleConcatenation s k ps)

pub layout_system_function_call : (names : Names) (n : Identifier) (ps : List Expr) → layout names (v.SystemFunctionCall n ps) ≡ layout_step names (e.SystemFunctionCall n (layouts names ps))
layout_system_function_call names n ps = ap (layout names) (sym (v.rolls-SystemFunctionCall n ps)) ∙ fold-roll-Expr Layout (layout_step names) (e.SystemFunctionCall n ps)
