use Rattle.tb_plans.proofs.Common.{names_of}
use Rattle.tb_plans.proofs.Values.{condition_value}
use Rattle.tb_plans.proofs.value.condition_of.Goals as goal

pub returns : goal.returns
returns c = condition_value (names_of c.args.scope.now) c.args.condition.now c.in_ok-formula.formula c.in_ok-formula.ensures
