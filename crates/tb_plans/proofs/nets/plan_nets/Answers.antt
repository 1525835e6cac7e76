use Rattle.tb_plans.proofs.Common.{arith, names_of, IsNetPlan}
use Rattle.tb_plans.proofs.Numbering.{net_plans_are}
use Rattle.tb_plans.proofs.Zips.{zip_more, zip_end}
use Rattle.tb_plans.proofs.nets.plan_nets.Goals as goal

pub loop-node-preserved : goal.loop-node-preserved
loop-node-preserved c = zip_more (IsNetPlan (names_of c.args.scope.now)) c.args.nodes.now c.loop-node.plans.items c.push.new.self.items c.loop-node.node-index c.node-item.result c.in_ok-net_plan.field-0 c.node-item.is c.loop-node-test.true c.loop-node.invariant c.in_ok-net_plan.ensures c.in_ok-push.ensures.items

pub returns : goal.returns
returns c = net_plans_are (names_of c.args.scope.now) c.args.nodes.now c.loop-node.plans.items (zip_end (IsNetPlan (names_of c.args.scope.now)) c.args.nodes.now c.loop-node.plans.items c.loop-node.node-index (omega arith) c.loop-node.invariant)
