use Rattle.tb_plans.proofs.Common.{take, AllZip, names_of, IsNodePlan}
use Rattle.tb_plans.proofs.nodes.plan_all.Given as goal

abbrev pub invariant-loop-node : goal.invariant-loop-node
invariant-loop-node l = AllZip (IsNodePlan (names_of l.scope)) (take l.node-index l.nodes) l.plans.items
