use Rattle.tb_plans.proofs.Common.{List, ◌∷◌, ap, ◌∙◌, flat_map, Expr, names_of, common_within, choice_labels, flat_of_map}
use Rattle.vlog_refusals.specs.Cases.{common_size}
use Rattle.tb_plans.proofs.choices.selection_of.Goals as goal

pub arms_of-requires-clause-within : goal.arms_of-requires-clause-within
arms_of-requires-clause-within c = (common_within (names_of c.args.scope.now) c.case_size-size.result (c.args.selector.now ∷ flat_map choice_labels c.args.items.now) c.case_size-size.ensures.size c.case_size-size.ensures.sized).1

pub selection_with-requires-clause-size : goal.selection_with-requires-clause-size
selection_with-requires-clause-size c = c.case_size-size.ensures.size ∙ ap (λ (l : List Expr). common_size (names_of c.args.scope.now) (c.args.selector.now ∷ l)) (flat_of_map c.args.items.now)
