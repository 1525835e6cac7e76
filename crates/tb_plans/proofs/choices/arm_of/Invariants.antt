use Rattle.tb_plans.proofs.Common.{take, AllZip, names_of, IsLabelOf}
use Rattle.tb_plans.proofs.choices.arm_of.Given as goal

abbrev pub invariant-loop-label : goal.invariant-loop-label
invariant-loop-label l = AllZip (IsLabelOf (names_of l.scope) l.kind l.size) (take l.label-index l.labels) l.found
