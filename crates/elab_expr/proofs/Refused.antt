-- An expression that is refused, or not.
use Rattle.elab_expr.proofs.Common.{◌≡◌, ◌∙◌, [], sym, ap, Option, None, Some, Expr, Fault, Shape, Names, IsWhole, left_nil, right_nil, these_nil, least_none, least_empty, plan}
use Rattle.vlog_meaning.specs.Answers.{least}
use Rattle.elab_expr.specs.Expressions.{refusals}

module _ (names : Names) (x : Expr) (c : Shape) (o : Option Fault) (is : o ≡ least (refusals names x c)) where
  -- nothing is wrong, and all is supported
  pub fine : o ≡ None → (IsWhole names x) × ((plan names x).unsupported ≡ [])
  fine none =
      let clear = these_nil _ _ (least_none _ (sym is ∙ none)) in
      (left_nil _ _ clear, right_nil _ _ clear)

  pub not_clear : (g : Fault) → o ≡ Some g → refusals names x c ≡ [] → ⊥
  not_clear g some clear = let e : Some g ≡ None = sym some ∙ is ∙ ap least clear ∙ sym least_empty in cc
