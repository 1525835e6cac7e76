-- The left side of each production.
use Rattle.tb_items.proofs.Common.{◌≡◌, ℕ, suc, zero, ◌<◌, List, [], ◌∷◌, ◌++◌, map, take, drop, length, get_or, refl, sym, ap, ◌∙◌, subst, arith, Option, None, Some, Identifier, LeftSide}
use Rattle.mcy_base.specs.declared.span.Span.{Span}
use Rattle.vlog_syntax.specs.declared.expr.Expr.{Expr}
use Rattle.vlog_syntax.specs.declared.expr.Expr.TheOpen as e
use Rattle.vlog_syntax.specs.declared.expr.Expr.TheOpen.{Expr-F}
use Rattle.vlog_syntax.specs.declared.expr.Expr.TheVariants as v
use Rattle.vlog_syntax.specs.declared.expr.Expr.TheViews.{roll-Expr}
use Rattle.vlog_syntax.specs.declared.expr.Expr.TheFolds.{fold-roll-Expr, ind-Expr, map-Expr}
use Rattle.vlog_syntax.specs.declared.identifier.Number.{Number}
use Rattle.vlog_syntax.specs.declared.operator.BinaryOperator.{BinaryOperator}
use Rattle.vlog_syntax.specs.declared.operator.UnaryOperator.{UnaryOperator}
use Rattle.vlog_syntax.specs.declared.left_side.LeftSide.TheVariants as l
use Rattle.tb_items.specs.Lefts.{Form, form, formed, left_in, left_of, all_lefts, with_first, concatenated}
use Rattle.std.proofs.lemmas.Option.{same_Some}

-- The expression of a form is the expression.

abbrev Same : Expr → Type 0
Same x = (form x).expr ≡ x

-- an expression with the proof for it
abbrev Proved : Type 0
Proved = (x : Expr) × Same x

all_same : (ws : List Proved) → map (λ (f : Form). f.expr) (map form (map (λ (w : Proved). w.0) ws)) ≡ map (λ (w : Proved). w.0) ws
all_same [] = refl
all_same (w ∷ more) = rw (w.1, all_same more) refl

layer_same : (y : Expr-F Proved) → map-Expr Form Expr (λ f. f.expr) (map-Expr Expr Form form (map-Expr Proved Expr (λ (w : Proved). w.0) y)) ≡ map-Expr Proved Expr (λ (w : Proved). w.0) y
layer_same (e.Number n) = refl
layer_same (e.Name n) = refl
layer_same (e.BitSelect n s i) = rw (i.1) refl
layer_same (e.PartSelect n s m l) = rw (m.1, l.1) refl
layer_same (e.IndexedPartSelect n s b w) = rw (b.1, w.1) refl
layer_same (e.Parenthesized s i) = rw (i.1) refl
layer_same (e.Unary s op i) = rw (i.1) refl
layer_same (e.Binary s op i j) = rw (i.1, j.1) refl
layer_same (e.Conditional s x i j) = rw (x.1, i.1, j.1) refl
layer_same (e.Concatenation s ps) = rw (all_same ps) refl
layer_same (e.MultipleConcatenation s k ps) = rw (k.1, all_same ps) refl
layer_same (e.SystemFunctionCall n ps) = rw (all_same ps) refl

abbrev IsSame : Expr-F Expr → Type 0
IsSame x = map-Expr Form Expr (λ f. f.expr) (map-Expr Expr Form form x) ≡ x

rolled_same : (x : Expr-F Expr) → IsSame x → Same (roll-Expr x)
rolled_same x h = ap (λ (f : Form). f.expr) (fold-roll-Expr Form formed x) ∙ ap roll-Expr h

own : (x : Expr) → Same x
own = ind-Expr Same (λ x y is. rolled_same x (subst IsSame is (layer_same y)))

-- Each production.

abbrev left : Form → Option LeftSide
left f = f.left

layer : (y : Expr-F Expr) → left_of (roll-Expr y) ≡ left_in (map-Expr Expr Form form y)
layer y = ap left (fold-roll-Expr Form formed y)

pub left_number : (n : Number) → left_of (v.Number n) ≡ None
left_number n = ap left_of (sym (v.rolls-Number n)) ∙ layer (e.Number n)

pub left_name : (n : Identifier) → left_of (v.Name n) ≡ Some (l.Name n)
left_name n = ap left_of (sym (v.rolls-Name n)) ∙ layer (e.Name n)

pub left_bit : (n : Identifier) (at : Span) (i : Expr) → left_of (v.BitSelect n at i) ≡ Some (l.BitSelect n at i)
left_bit n at i =
    let made : Expr → Option LeftSide = λ z. Some (l.BitSelect n at z) in
    ap left_of (sym (v.rolls-BitSelect n at i)) ∙ layer (e.BitSelect n at i) ∙ ap made (own i)

pub left_range : (n : Identifier) (at : Span) (msb lsb : Expr) → left_of (v.PartSelect n at msb lsb) ≡ Some (l.PartSelect n at msb lsb)
left_range n at msb lsb =
    let with_msb : Expr → Option LeftSide = λ z. Some (l.PartSelect n at z (form lsb).expr) in
    let with_lsb : Expr → Option LeftSide = λ z. Some (l.PartSelect n at msb z) in
    ap left_of (sym (v.rolls-PartSelect n at msb lsb)) ∙ layer (e.PartSelect n at msb lsb) ∙ ap with_msb (own msb) ∙ ap with_lsb (own lsb)

pub left_indexed : (n : Identifier) (at : Span) (base count : Expr) → left_of (v.IndexedPartSelect n at base count) ≡ Some (l.IndexedPartSelect n at base count)
left_indexed n at base count =
    let with_base : Expr → Option LeftSide = λ z. Some (l.IndexedPartSelect n at z (form count).expr) in
    let with_count : Expr → Option LeftSide = λ z. Some (l.IndexedPartSelect n at base z) in
    ap left_of (sym (v.rolls-IndexedPartSelect n at base count)) ∙ layer (e.IndexedPartSelect n at base count) ∙ ap with_base (own base) ∙ ap with_count (own count)

pub left_parenthesized : (at : Span) (i : Expr) → left_of (v.Parenthesized at i) ≡ None
left_parenthesized at i = ap left_of (sym (v.rolls-Parenthesized at i)) ∙ layer (e.Parenthesized at i)

pub left_unary : (at : Span) (op : UnaryOperator) (i : Expr) → left_of (v.Unary at op i) ≡ None
left_unary at op i = ap left_of (sym (v.rolls-Unary at op i)) ∙ layer (e.Unary at op i)

pub left_binary : (at : Span) (op : BinaryOperator) (i j : Expr) → left_of (v.Binary at op i j) ≡ None
left_binary at op i j = ap left_of (sym (v.rolls-Binary at op i j)) ∙ layer (e.Binary at op i j)

pub left_conditional : (at : Span) (x i j : Expr) → left_of (v.Conditional at x i j) ≡ None
left_conditional at x i j = ap left_of (sym (v.rolls-Conditional at x i j)) ∙ layer (e.Conditional at x i j)

lefts_mapped : (xs : List Expr) → map left (map form xs) ≡ map left_of xs
lefts_mapped [] = refl
lefts_mapped (x ∷ xs) = ap (λ (ls : List (Option LeftSide)). left_of x ∷ ls) (lefts_mapped xs)

pub left_concatenation : (at : Span) (xs : List Expr) → left_of (v.Concatenation at xs) ≡ concatenated at (all_lefts (map left_of xs))
left_concatenation at xs = ap left_of (sym (v.rolls-Concatenation at xs)) ∙ layer (e.Concatenation at xs) ∙ ap (λ (ls : List (Option LeftSide)). concatenated at (all_lefts ls)) (lefts_mapped xs)

pub left_multiple : (at : Span) (k : Expr) (xs : List Expr) → left_of (v.MultipleConcatenation at k xs) ≡ None
left_multiple at k xs = ap left_of (sym (v.rolls-MultipleConcatenation at k xs)) ∙ layer (e.MultipleConcatenation at k xs)

pub left_call : (n : Identifier) (xs : List Expr) → left_of (v.SystemFunctionCall n xs) ≡ None
left_call n xs = ap left_of (sym (v.rolls-SystemFunctionCall n xs)) ∙ layer (e.SystemFunctionCall n xs)

-- Lists of left sides.

one_more : (os : List (Option LeftSide)) (lefts : List LeftSide) (x : LeftSide) → all_lefts os ≡ Some lefts → all_lefts (os ++ Some x ∷ []) ≡ Some (lefts ++ x ∷ [])
one_more [] lefts x e = ap (λ (ls : List LeftSide). Some (ls ++ x ∷ [])) (same_Some [] lefts e)
one_more (None ∷ os) lefts x e = absurd cc
one_more (Some y ∷ os) lefts x e = go (all_lefts os) refl (one_more os) e
  where
    go : (o : Option (List LeftSide)) → all_lefts os ≡ o → ((ls : List LeftSide) (z : LeftSide) → all_lefts os ≡ Some ls → all_lefts (os ++ Some z ∷ []) ≡ Some (ls ++ z ∷ [])) → with_first y o ≡ Some lefts → with_first y (all_lefts (os ++ Some x ∷ [])) ≡ Some (lefts ++ x ∷ [])
    go None is more h = absurd cc
    go (Some ls) is more h = ap (with_first y) (more ls x is) ∙ ap (λ (zs : List LeftSide). Some (zs ++ x ∷ [])) (same_Some (y ∷ ls) lefts h)

one_missing : (os rest : List (Option LeftSide)) → all_lefts (os ++ None ∷ rest) ≡ None
one_missing [] rest = refl
one_missing (None ∷ os) rest = refl
one_missing (Some x ∷ os) rest = ap (with_first x) (one_missing os rest)

mapped_more : (xs : List Expr) (k : ℕ) (x : Expr) → x ≡ get_or xs k x → k < length xs → map left_of (take (suc k) xs) ≡ map left_of (take k xs) ++ left_of x ∷ []
mapped_more [] k x at h = absurd (omega arith)
mapped_more (y ∷ ys) zero x at h = ap (λ (z : Expr). left_of z ∷ []) (sym at)
mapped_more (y ∷ ys) (suc k) x at h = ap (λ (os : List (Option LeftSide)). left_of y ∷ os) (mapped_more ys k x at (omega arith))

mapped_split : (xs : List Expr) (k : ℕ) (x : Expr) → x ≡ get_or xs k x → k < length xs → map left_of xs ≡ map left_of (take k xs) ++ left_of x ∷ map left_of (drop (suc k) xs)
mapped_split [] k x at h = absurd (omega arith)
mapped_split (y ∷ ys) zero x at h = ap (λ (z : Expr). left_of z ∷ map left_of ys) (sym at)
mapped_split (y ∷ ys) (suc k) x at h = ap (λ (os : List (Option LeftSide)). left_of y ∷ os) (mapped_split ys k x at (omega arith))

-- those of the first expressions, and one more
pub lefts_more : (xs : List Expr) (k : ℕ) (x : Expr) (lefts : List LeftSide) (left : LeftSide) → x ≡ get_or xs k x → k < length xs → all_lefts (map left_of (take k xs)) ≡ Some lefts → left_of x ≡ Some left → all_lefts (map left_of (take (suc k) xs)) ≡ Some (lefts ++ left ∷ [])
lefts_more xs k x lefts left at h e is =
    ap all_lefts (mapped_more xs k x at h) ∙ ap (λ (o : Option LeftSide). all_lefts (map left_of (take k xs) ++ o ∷ [])) is ∙ one_more (map left_of (take k xs)) lefts left e

-- one that has no left side
pub lefts_none : (xs : List Expr) (k : ℕ) (x : Expr) → x ≡ get_or xs k x → k < length xs → left_of x ≡ None → all_lefts (map left_of xs) ≡ None
lefts_none xs k x at h is =
    ap all_lefts (mapped_split xs k x at h) ∙ ap (λ (o : Option LeftSide). all_lefts (map left_of (take k xs) ++ o ∷ map left_of (drop (suc k) xs))) is ∙ one_missing (map left_of (take k xs)) (map left_of (drop (suc k) xs))
