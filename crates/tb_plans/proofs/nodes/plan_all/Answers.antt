use Rattle.tb_plans.proofs.Common.{arith, Names, names_of, IsWhole, IsKnown, CanAssign, IsNodePlan}
use Rattle.tb_plans.proofs.Knowing.{without_tasks}
use Rattle.tb_plans.proofs.Numbering.{plans_are}
use Rattle.tb_plans.proofs.Zips.{all_at, zip_more, zip_end}
use Rattle.tb_plans.proofs.nodes.plan_all.Goals as goal

pub plan_of-requires : goal.plan_of-requires
plan_of-requires c =
    let names : Names = names_of c.args.scope.now in
    all_at (IsKnown (IsWhole names) (CanAssign names) (λ name arguments. Unit {0})) c.args.nodes.now c.loop-node.node-index c.node-item.result c.node-item.is c.loop-node-test.true (without_tasks names (λ name arguments. Unit {0}) c.args.nodes.now c.requires)

pub loop-node-preserved : goal.loop-node-preserved
loop-node-preserved c = zip_more (IsNodePlan (names_of c.args.scope.now)) c.args.nodes.now c.loop-node.plans.items c.push.new.self.items c.loop-node.node-index c.node-item.result c.in_ok-plan_of.field-0 c.node-item.is c.loop-node-test.true c.loop-node.invariant c.in_ok-plan_of.ensures c.in_ok-push.ensures.items

pub returns : goal.returns
returns c = plans_are (names_of c.args.scope.now) c.args.nodes.now c.loop-node.plans.items (zip_end (IsNodePlan (names_of c.args.scope.now)) c.args.nodes.now c.loop-node.plans.items c.loop-node.node-index (omega arith) c.loop-node.invariant)
