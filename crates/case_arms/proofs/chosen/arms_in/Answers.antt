use Rattle.case_arms.proofs.Common.{◌≡◌, ◌∷◌, [], List, map, refl, sym, ap, ◌∙◌, false, Expr, Shape, names_of, item_steps, greatest, selection_of, labels_same}
use Rattle.case_arms.proofs.chosen.arms_in.Goals as goal

pub returns-clause-arms : goal.returns-clause-arms
returns-clause-arms c =
    let names = names_of c.args.scope.now in
    let s = selection_of names c.args.kind c.args.selector.now (map item_steps c.args.items.now) in
    let width : s.width ≡ c.case_size-size.result.width = ap (λ (l : List Expr). greatest names (c.args.selector.now ∷ l)) (labels_same false [] c.args.items.now) ∙ sym (ap (λ (z : Shape). z.width) c.case_size-size.ensures.size) in
    c.up_to_free.ensures.arms s refl width ∙ c.in_ok-ends.ensures.arms
