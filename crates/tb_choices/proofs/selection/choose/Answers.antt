use Rattle.tb_choices.proofs.Common.{List, ◌∷◌, map, sym, ap, ◌∙◌, Option, ℕ, flat_map, Expr, names_of, store_of, common_size, common_within, choice_labels, default_item, or_default}
use Rattle.tb_choices.proofs.Labels.{flat_of_map}
use Rattle.tb_choices.proofs.Matches.{chosen_is}
use Rattle.tb_choices.proofs.selection.choose.Goals as goal

pub first_match-requires-clause-within : goal.first_match-requires-clause-within
first_match-requires-clause-within c = (common_within (names_of c.args.moment.now.scope.now) c.case_size-size.result (c.args.selector.now ∷ flat_map choice_labels c.args.items.now) c.case_size-size.ensures.size c.case_size-size.ensures.sized).1

pub returns-in-Some : goal.returns-in-Some
returns-in-Some c =
    let labels : List (List Expr) = map choice_labels c.args.items.now in
    chosen_is (names_of c.args.moment.now.scope.now) c.args.moment.now.phase c.args.kind c.args.selector.now labels (store_of c.args.moment.now.store.now) c.case_size-size.result c.args.words.now c.evaluate.new.words c.first_match.new.words c.bits.result c.in_ok-number.field-0 _
    (c.case_size-size.ensures.size ∙ ap (λ (l : List Expr). common_size (names_of c.args.moment.now.scope.now) (c.args.selector.now ∷ l)) (flat_of_map c.args.items.now))
    (ap (λ (n : ℕ). (n, c.evaluate.new.words)) c.bits.ensures.bits ∙ c.in_ok-value.ensures.value)
    c.in_ok-number.ensures
    (ap (λ (o : Option ℕ). or_default o (default_item 0 labels)) (sym c.in-Some.is))

pub returns-in-None : goal.returns-in-None
returns-in-None c =
    let labels : List (List Expr) = map choice_labels c.args.items.now in
    chosen_is (names_of c.args.moment.now.scope.now) c.args.moment.now.phase c.args.kind c.args.selector.now labels (store_of c.args.moment.now.store.now) c.case_size-size.result c.args.words.now c.evaluate.new.words c.first_match.new.words c.bits.result c.in_ok-number.field-0 c.default_item.result
    (c.case_size-size.ensures.size ∙ ap (λ (l : List Expr). common_size (names_of c.args.moment.now.scope.now) (c.args.selector.now ∷ l)) (flat_of_map c.args.items.now))
    (ap (λ (n : ℕ). (n, c.evaluate.new.words)) c.bits.ensures.bits ∙ c.in_ok-value.ensures.value)
    c.in_ok-number.ensures
    (c.default_item.ensures ∙ ap (λ (o : Option ℕ). or_default o (default_item 0 labels)) (sym c.in-None.is))
