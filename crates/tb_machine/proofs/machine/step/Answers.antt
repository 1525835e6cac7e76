use Rattle.tb_machine.proofs.Common.{◌≡◌, Some, slice_get, length, refl, tree_of, works}
use Rattle.std.proofs.lemmas.Option.{slice_get_read}
use Rattle.tb_machine.specs.declared.node.Frame.TheVariants as f
use Rattle.tb_machine.proofs.Loops.{turns_turn}
use Rattle.tb_machine.proofs.Stacks.{works-push}
use Rattle.tb_machine.proofs.machine.step.Goals as goal

pub returns-in-Do-clause-step : goal.returns-in-Do-clause-step
returns-in-Do-clause-step g c = λ trees code.
    let m = g.E.Evaluator.meaning c.args.evaluator.now in
    let got : slice_get c.args.nodes.now c.in-Do.number ≡ Some c.index-nodes-number.result = slice_get_read c.args.nodes.now (length c.args.nodes.now) c.in-Do.number c.index-nodes-number.result refl (rw c.in-Do.is at c.requires.known) c.index-nodes-number.is in
    rw (c.in-Do.is, code.does c.in-Do.number c.index-nodes-number.result got m (works c.args.nodes.now (tree_of trees) c.args.stack.now.items) c.args.scene.now) (c.execute.ensures.step (tree_of trees))

pub returns-in_ok-push-in-Again-clause-step : goal.returns-in_ok-push-in-Again-clause-step
returns-in_ok-push-in-Again-clause-step g c = λ trees code.
    let m = g.E.Evaluator.meaning c.args.evaluator.now in
    let n = c.in-Again.number in
    let node = c.index-nodes-number-in-Again.result in
    let tree = tree_of trees in
    let got : slice_get c.args.nodes.now n ≡ Some node = slice_get_read c.args.nodes.now (length c.args.nodes.now) n node refl (rw c.in-Again.is at c.requires.known) c.index-nodes-number-in-Again.is in
    let pushed = c.in_ok-push-in-Again.ensures.items in
    rw (c.in-Again.is, code.does n node got m _ c.args.scene.now, ← works-push c.args.nodes.now tree c.args.stack.now.items (f.Again n), ← pushed) (c.execute-in-Again.ensures.step tree)

pub returns-in_ok-push-in-Turns-2-clause-step : goal.returns-in_ok-push-in-Turns-2-clause-step
returns-in_ok-push-in-Turns-2-clause-step g c = λ trees code. rw c.in-Turns.is (turns_turn c.args.nodes.now (tree_of trees) (g.E.Evaluator.meaning c.args.evaluator.now) c.args.stack.now.items c.args.scene.now c.in-Turns.turns c.in-Turns.number c.if-turns-gt0.true c.in_ok-push-in-Turns.ensures.items c.in_ok-push-in-Turns-2.ensures.items)
