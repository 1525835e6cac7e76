use Rattle.tb_plans.proofs.Common.{take, AllZip, names_of, IsNetPlan}
use Rattle.tb_plans.proofs.nets.plan_nets.Given as goal

abbrev pub invariant-loop-node : goal.invariant-loop-node
invariant-loop-node l = AllZip (IsNetPlan (names_of l.scope)) (take l.node-index l.nodes) l.plans.items
