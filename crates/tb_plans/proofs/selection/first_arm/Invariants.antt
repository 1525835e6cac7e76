use Rattle.tb_plans.proofs.Common.{◌≡◌, drop, store_of, first_arm}
use Rattle.tb_plans.proofs.selection.first_arm.Given as goal

abbrev pub invariant-loop-number : goal.invariant-loop-number
invariant-loop-number l = first_arm (store_of l.store) l.value l.number (drop l.number l.arms) ≡ first_arm (store_of l.store) l.value 0 l.arms
