use Rattle.tb_evaluator.proofs.Common.{ap, ◌∙◌, Store}
use Rattle.tb_plans.specs.Selections.{selection_taken}
use Rattle.tb_evaluator.proofs.Served.{same_store}
use Rattle.tb_evaluator.proofs.planned.choice_planned.Goals as goal

pub returns : goal.returns
returns c = c.taken.ensures ∙ ap (λ (store : Store). selection_taken c.args.selection.now store) (same_store c.store.result.now c.args.scene.now c.store.ensures.values)
