use Rattle.tb_machine.proofs.Common.{length}
use Rattle.std.proofs.lemmas.Result.{IfOk-weaker}
use Rattle.tb_machine.proofs.Executes.{conditional_step, case_step, repeat_step, forever_step, event_step, for_step, while_step}
use Rattle.tb_machine.proofs.machine.execute.Goals as goal

pub returns-in_ok-holds-in-Conditional-clause-step : goal.returns-in_ok-holds-in-Conditional-clause-step
returns-in_ok-holds-in-Conditional-clause-step g c = λ tree. IfOk-weaker c.push_next.result _ _ (λ r h. conditional_step c.args.nodes.now tree (g.E.Evaluator.meaning c.args.evaluator.now) c.args.stack.now.items c.push_next.new.stack.items c.part_of.result r c.in-Conditional.is c.in_ok-holds-in-Conditional.ensures.holds (c.part_of.ensures.work tree) h) (c.push_next.ensures.works c.args.nodes.now tree)

pub returns-in_ok-taken-in-Case-clause-step : goal.returns-in_ok-taken-in-Case-clause-step
returns-in_ok-taken-in-Case-clause-step g c = λ tree. IfOk-weaker c.push_next-in-Case.result _ _ (λ r h. case_step c.args.nodes.now tree (g.E.Evaluator.meaning c.args.evaluator.now) c.args.stack.now.items c.push_next-in-Case.new.stack.items c.body_at.result r c.in-Case.is (rw c.as_slice-items.ensures at c.in_ok-taken-in-Case.ensures.choice) (rw c.as_slice-items.ensures at c.body_at.ensures.work tree) h) (c.push_next-in-Case.ensures.works c.args.nodes.now tree)

pub returns-in_ok-turns-in-Repeat-clause-step : goal.returns-in_ok-turns-in-Repeat-clause-step
returns-in_ok-turns-in-Repeat-clause-step g c = λ tree. IfOk-weaker c.push-in-Repeat.result _ _ (λ r h. repeat_step c.args.nodes.now tree (g.E.Evaluator.meaning c.args.evaluator.now) c.args.stack.now.items c.push-in-Repeat.new.stack.items r c.in-Repeat.is c.in_ok-turns-in-Repeat.ensures.count h) c.push-in-Repeat.ensures.pushed

pub returns-in-Forever-clause-step : goal.returns-in-Forever-clause-step
returns-in-Forever-clause-step g c = λ tree. IfOk-weaker c.push-in-Forever.result _ _ (λ r h. forever_step c.args.nodes.now tree (g.E.Evaluator.meaning c.args.evaluator.now) c.args.stack.now.items c.push-in-Forever.new.stack.items r c.args.scene.now c.in-Forever.is h) c.push-in-Forever.ensures.pushed

pub returns-in_ok-push-in-EventControl-clause-step : goal.returns-in_ok-push-in-EventControl-clause-step
returns-in_ok-push-in-EventControl-clause-step g c = λ tree. event_step c.args.nodes.now tree (g.E.Evaluator.meaning c.args.evaluator.now) c.args.stack.now.items c.args.scene.now c.in-EventControl.is c.in_ok-push-in-EventControl.ensures.items

pub returns-in-For-clause-step : goal.returns-in-For-clause-step
returns-in-For-clause-step g c = λ tree. IfOk-weaker c.push.result _ _ (λ r h. for_step c.args.nodes.now tree (g.E.Evaluator.meaning c.args.evaluator.now) c.args.stack.now.items c.push.new.stack.items r c.args.number c.args.scene.now c.in-For.is c.requires.at h) c.push.ensures.pushed

pub returns-in-While-clause-step : goal.returns-in-While-clause-step
returns-in-While-clause-step g c = λ tree. IfOk-weaker c.push-in-While.result _ _ (λ r h. while_step c.args.nodes.now tree (g.E.Evaluator.meaning c.args.evaluator.now) c.args.stack.now.items c.push-in-While.new.stack.items r c.args.number c.args.scene.now c.in-While.is c.requires.at h) c.push-in-While.ensures.pushed

pub returns-in_ok-holds-in-Conditional-clause-below : goal.returns-in_ok-holds-in-Conditional-clause-below
returns-in_ok-holds-in-Conditional-clause-below g c =
    let parts = rw c.in-Conditional.is at c.requires.parts in
    c.push_next.ensures.below (length c.args.nodes.now) c.requires.below (c.part_of.ensures.below (length c.args.nodes.now) parts.0 parts.1)
