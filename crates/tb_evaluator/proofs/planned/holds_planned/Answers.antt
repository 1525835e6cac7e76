use Rattle.tb_evaluator.proofs.Common.{ℕ, not, ◌==◌, ap, ◌∙◌, Store, formula_value}
use Rattle.tb_evaluator.proofs.Served.{same_store}
use Rattle.tb_evaluator.proofs.planned.holds_planned.Goals as goal

pub returns : goal.returns
returns c = ap (λ (n : ℕ). not (n == 0)) (c.value.ensures.value ∙ ap (λ (store : Store). formula_value c.args.formula.now store) (same_store c.store.result.now c.args.scene.now c.store.ensures.values))
