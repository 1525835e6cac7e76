use Rattle.case_arms.proofs.Common.{◌≡◌, ◌+◌, List, map, length, ap, sym, ◌∙◌, arith, Option, Some, item_steps, InNames, Item, front, arms_of, item_body}
use Rattle.case_arms.proofs.Bounds.{front_is, last_is}
use Rattle.case_arms.proofs.chosen.all_but_last.Goals as goal

pub returns-in-Some-clause-arms : goal.returns-in-Some-clause-arms
returns-in-Some-clause-arms c = λ s none.
    let items = c.args.items.now in
    let h : length items ≡ c.in-Some.place + 1 = omega arith in
    ap (λ (l : List Item). arms_of s l (Some (item_body items c.in-Some.place))) (sym (front_is items c.in-Some.place h none)) ∙ ap (λ (o : Option InNames). arms_of s (front (map item_steps items)) o) (sym (last_is items c.in-Some.place h))
