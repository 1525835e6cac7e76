-- Operators with what stands behind them.
use Rattle.vlog_trees.proofs.Common.{◌≡◌, ◌<◌, ◌≤◌, List, [], ◌∷◌, length, refl, sym, ap, arith, Value, first, rest, chain_of, chained, extended, operated, linked}
use Rattle.mcy_base.specs.declared.span.Span.{Span}
use Rattle.vlog_syntax.specs.declared.operator.BinaryOperator.{BinaryOperator}
use Rattle.vlog_syntax.specs.declared.expr.Expr.{Expr}
use Rattle.vlog_syntax.specs.declared.expr.Expr.TheVariants as e
use Rattle.vlog_parts.specs.declared.expression_parts.Link.{Link}

pub chained_none : (x : Expr) (ys : List Link) → ys ≡ [] → chained x ys ≡ x
unfolding chained
chained_none x ys none = ap (chained x) none

pub chained_more : (x : Expr) (o : Link) (os ys : List Link) → ys ≡ o ∷ os → chained (e.Binary o.span o.operator x o.right) os ≡ chained x ys
unfolding chained
chained_more x o os ys is = sym (ap (chained x) is)

pub operated_none : (x : Expr) (ys : List Value) → ys ≡ [] → operated x ys ≡ x
unfolding operated
operated_none x ys none = ap (operated x) none

pub operated_more : (x : Expr) (y : Value) (vs ys : List Value) → ys ≡ y ∷ vs → operated (extended x y) vs ≡ operated x ys
unfolding operated
operated_more x y vs ys is = sym (ap (operated x) is)

pub linked_more : (s : Span) (o : BinaryOperator) (x : Expr) (ys : List Value) → 1 < length ys → linked s o (extended x (first ys)) (rest ys) ≡ linked s o x ys
unfolding linked first rest
linked_more s o x [] h = absurd (omega (arith, h))
linked_more s o x (y ∷ []) h = absurd (omega (arith, h))
linked_more s o x (y ∷ z ∷ zs) h = refl

pub linked_last : (s : Span) (o : BinaryOperator) (x : Expr) (ys : List Value) → length ys ≤ 1 → linked s o x ys ≡ record { span = s; operator = o; right = x } ∷ chain_of (first ys)
unfolding linked first
linked_last s o x [] h = refl
linked_last s o x (y ∷ []) h = refl
linked_last s o x (y ∷ z ∷ zs) h = absurd (omega (arith, h))

pub rest_shorter : (xs ys : List Value) → ys ≡ rest xs → 1 < length xs → length ys < length xs
unfolding rest
rest_shorter [] ys is h = absurd (omega (arith, h))
rest_shorter (x ∷ xs) ys is h = omega (arith, ap length is)
