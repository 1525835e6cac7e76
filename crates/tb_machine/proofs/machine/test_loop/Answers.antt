use Rattle.tb_machine.proofs.Common.{refl}
use Rattle.tb_machine.proofs.Loops.{for_turn, for_end, while_turn, while_end, no_loop}
use Rattle.tb_machine.proofs.machine.test_loop.Goals as goal

pub returns-in_ok-push-in-For-2-clause-step : goal.returns-in_ok-push-in-For-2-clause-step
returns-in_ok-push-in-For-2-clause-step g c = λ tree. for_turn c.args.nodes.now tree (g.E.Evaluator.meaning c.args.evaluator.now) c.args.is_first c.args.number c.args.stack.now.items c.args.scene.now c.in-For.is c.requires.at c.in_ok-assign_due-in-For.ensures.assigned c.in_ok-holds-in-For.ensures.holds c.if-branch.true c.in_ok-push-in-For.ensures.items c.in_ok-push-in-For-2.ensures.items

pub returns-else-branch-clause-step : goal.returns-else-branch-clause-step
returns-else-branch-clause-step g c = λ tree. for_end c.args.nodes.now tree (g.E.Evaluator.meaning c.args.evaluator.now) c.args.is_first c.args.stack.now.items c.args.scene.now c.in-For.is c.in_ok-assign_due-in-For.ensures.assigned c.in_ok-holds-in-For.ensures.holds c.if-branch.false

pub returns-in_ok-push-in-While-2-clause-step : goal.returns-in_ok-push-in-While-2-clause-step
returns-in_ok-push-in-While-2-clause-step g c = λ tree. while_turn c.args.nodes.now tree (g.E.Evaluator.meaning c.args.evaluator.now) c.args.is_first c.args.number c.args.stack.now.items c.args.scene.now c.in-While.is c.requires.at c.in_ok-holds-in-While.ensures.holds c.if-branch-2.true c.in_ok-push-in-While.ensures.items c.in_ok-push-in-While-2.ensures.items

pub returns-else-branch-2-clause-step : goal.returns-else-branch-2-clause-step
returns-else-branch-2-clause-step g c = λ tree. while_end c.args.nodes.now tree (g.E.Evaluator.meaning c.args.evaluator.now) c.args.is_first c.args.stack.now.items c.args.scene.now c.in-While.is c.in_ok-holds-in-While.ensures.holds c.if-branch-2.false

pub returns-in_default : goal.returns-in_default
returns-in_default g c = record {
  step = λ tree. rw (no_loop tree c.args.is_first c.args.node.now c.in_default.not-For c.in_default.not-While) (refl, refl);
  below = c.requires.below;
  serves = c.requires.serves;
}
