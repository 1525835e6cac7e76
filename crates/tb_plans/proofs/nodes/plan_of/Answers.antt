use Rattle.tb_plans.proofs.Common.{List, map, sym, subst, All, Names, names_of, IsWhole, Choice, IsKnown, choice_labels, CanAssign}
use Rattle.std.proofs.lemmas.List.Elements.{All-map}
use Rattle.tb_choices.specs.Choices.{LabelsWhole}
use Rattle.tb_plans.proofs.nodes.plan_of.Goals as goal

pub selection_of-requires-clause-labels : goal.selection_of-requires-clause-labels
selection_of-requires-clause-labels c =
    let names : Names = names_of c.args.scope.now in
    let known = subst (IsKnown (IsWhole names) (CanAssign names) (λ name arguments. Unit {0})) c.in-Case.is c.requires in
    subst (λ (is : List Choice). LabelsWhole names (map choice_labels is)) (sym c.as_slice.ensures) (All-map (All (IsWhole names)) choice_labels c.in-Case.items known.1)
