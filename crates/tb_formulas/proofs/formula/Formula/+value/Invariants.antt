use Rattle.tb_formulas.proofs.Common.{◌+◌, ◌*◌}
use Rattle.tb_formulas.proofs.formula.Formula.+value.Given as goal

abbrev pub decreases-value : goal.decreases-value
decreases-value l = 2 * goal.size-value l + 1

abbrev pub decreases-computed : goal.decreases-computed
decreases-computed l = 2 * goal.size-computed l
