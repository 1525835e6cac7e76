use Rattle.tb_formulas.proofs.Common.{[], sym, ◌∙◌, names_of, store_of}
use Rattle.expr_plans.proofs.Plans.{constant_value}
use Rattle.tb_formulas.proofs.building.constant.Goals as goal

pub returns-then-is_constant-clause-means : goal.returns-then-is_constant-clause-means
returns-then-is_constant-clause-means c = λ store. c.value_of.ensures.value ∙ constant_value (names_of c.args.scope.now) c.args.expr.now (store_of []) store c.args.context (sym c.is_constant.ensures ∙ c.if-is_constant.true)
