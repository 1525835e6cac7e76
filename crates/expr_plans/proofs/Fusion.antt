-- What is read of each value of a fold over expressions is a fold itself, where what is read of a step is a step of what is read.
use Rattle.expr_plans.proofs.Common.{◌≡◌, List, [], ◌∷◌, map, refl, sym, ap, ◌∙◌, subst, Expr, fold-Expr, fold-roll-Expr, ind-Expr, map-Expr}
use Rattle.vlog_syntax.specs.declared.expr.Expr.TheOpen as e
use Rattle.vlog_syntax.specs.declared.expr.Expr.TheOpen.{Expr-F}

module _ {A B : Type 0} (read : A → B) (whole : Expr-F A → A) (part : Expr-F B → B) where
  abbrev IsRead : Expr → Type 0
  IsRead x = read (fold-Expr A whole x) ≡ fold-Expr B part x

  abbrev Proved : Type 0
  Proved = (x : Expr) × IsRead x

  all_read : (ws : List Proved) → map read (map (fold-Expr A whole) (map (λ (w : Proved). w.0) ws)) ≡ map (fold-Expr B part) (map (λ (w : Proved). w.0) ws)
  all_read [] = refl
  all_read (w ∷ more) = rw (w.1, all_read more) refl

  parts_read : (y : Expr-F Proved) → map-Expr A B read (map-Expr Expr A (fold-Expr A whole) (map-Expr Proved Expr (λ (w : Proved). w.0) y)) ≡ map-Expr Expr B (fold-Expr B part) (map-Expr Proved Expr (λ (w : Proved). w.0) y)
  parts_read (e.Number n) = refl
  parts_read (e.Name n) = refl
  parts_read (e.BitSelect n s i) = rw (i.1) refl
  parts_read (e.PartSelect n s m l) = rw (m.1, l.1) refl
  parts_read (e.IndexedPartSelect n s b w) = rw (b.1, w.1) refl
  parts_read (e.Parenthesized s i) = rw (i.1) refl
  parts_read (e.Unary s op i) = rw (i.1) refl
  parts_read (e.Binary s op i j) = rw (i.1, j.1) refl
  parts_read (e.Conditional s x i j) = rw (x.1, i.1, j.1) refl
  parts_read (e.Concatenation s ps) = rw (all_read ps) refl
  parts_read (e.MultipleConcatenation s k ps) = rw (k.1, all_read ps) refl
  parts_read (e.SystemFunctionCall n ps) = rw (all_read ps) refl

  abbrev AreRead : Expr-F Expr → Type 0
  AreRead x = map-Expr A B read (map-Expr Expr A (fold-Expr A whole) x) ≡ map-Expr Expr B (fold-Expr B part) x

  pub fused : ((y : Expr-F A) → read (whole y) ≡ part (map-Expr A B read y)) → (x : Expr) → read (fold-Expr A whole x) ≡ fold-Expr B part x
  fused step = ind-Expr IsRead (λ x y is.
      let same : AreRead x = subst AreRead is (parts_read y) in
      ap read (fold-roll-Expr A whole x) ∙ step (map-Expr Expr A (fold-Expr A whole) x) ∙ ap part same ∙ sym (fold-roll-Expr B part x))
