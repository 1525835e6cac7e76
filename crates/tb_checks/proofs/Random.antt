-- Where an expression of each production draws a random number.
use Rattle.tb_checks.proofs.Common.{◌≡◌, ℕ, zero, suc, ◌<◌, List, [], ◌∷◌, ◌++◌, map, sym, ap, ◌∙◌, take, get_or, length, arith, append_assoc, append-nil, Span, Expr, roll-Expr, randoms, randoms_step}
use Rattle.tb_checks.proofs.Common.{all_randoms}
use Rattle.vlog_syntax.specs.declared.expr.Expr.TheOpen.{Expr-F}
use Rattle.vlog_syntax.specs.declared.expr.Expr.TheFolds.{fold-roll-Expr, map-Expr}

-- those of an expression, from those of its parts
pub random_parts : (x : Expr) (o : Expr-F Expr) → x ≡ roll-Expr o → randoms x ≡ randoms_step (map-Expr Expr (List Span) randoms o)
random_parts x o is = ap randoms is ∙ fold-roll-Expr (List Span) randoms_step o

-- one expression more
pub randoms_take : (es : List Expr) (k : ℕ) (x : Expr) → x ≡ get_or es k x → k < length es → all_randoms (map randoms (take (suc k) es)) ≡ all_randoms (map randoms (take k es)) ++ randoms x
randoms_take [] k x is h = absurd (omega arith)
randoms_take (e ∷ es) zero x is h = append-nil (randoms e) ∙ ap randoms (sym is)
randoms_take (e ∷ es) (suc k) x is h = ap (λ (l : List Span). randoms e ++ l) (randoms_take es k x is (omega arith)) ∙ sym (append_assoc (randoms e) (all_randoms (map randoms (take k es))) (randoms x))
