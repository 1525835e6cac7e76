use Rattle.tb_plans.proofs.Common.{take, AllZip, names_of, IsItemArm}
use Rattle.tb_plans.proofs.choices.arms_of.Given as goal

abbrev pub invariant-loop-item : goal.invariant-loop-item
invariant-loop-item l = AllZip (IsItemArm (names_of l.scope) l.kind l.size) (take l.item-index l.items) l.found
