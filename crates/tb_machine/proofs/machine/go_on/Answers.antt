use Rattle.tb_machine.proofs.Common.{◌∙◌, refl, arith, tree_of}
use Rattle.tb_machine.proofs.Goes.{next_goes, next_waits, next_finishes}
use Rattle.tb_machine.proofs.machine.go_on.Goals as goal

pub loop-frame-preserved : goal.loop-frame-preserved
loop-frame-preserved g c = record {
  ran = λ trees code. next_goes c.args.nodes.now (tree_of trees) (g.E.Evaluator.meaning c.args.evaluator.now) c.loop-frame.process.event c.loop-frame.left c.loop-frame.process.stack.items c.pop.new.self.items c.step.new.stack.items c.in-Some.frame c.loop-frame.scene c.step.new.scene c.in-Some.ensures.items (omega arith) (rw c.in-Goes.is at (c.in_ok-step.ensures.step trees code)) ∙ c.loop-frame.invariant.ran trees code;
  below = c.in_ok-step.ensures.below;
  serves = c.in_ok-step.ensures.serves;
}

pub returns-in-Waits-clause-ran : goal.returns-in-Waits-clause-ran
returns-in-Waits-clause-ran g c = λ trees code.
    let e = next_waits c.args.nodes.now (tree_of trees) (g.E.Evaluator.meaning c.args.evaluator.now) c.loop-frame.process.event c.in-Waits.event c.loop-frame.left c.loop-frame.process.stack.items c.pop.new.self.items c.step.new.stack.items c.in-Some.frame c.loop-frame.scene c.step.new.scene c.in-Some.ensures.items (omega arith) (rw c.in-Waits.is at (c.in_ok-step.ensures.step trees code)) in
    rw (← c.loop-frame.invariant.ran trees code, e) (refl, refl, refl)

pub returns-in-Finishes-clause-ran : goal.returns-in-Finishes-clause-ran
returns-in-Finishes-clause-ran g c = λ trees code.
    let e = next_finishes c.args.nodes.now (tree_of trees) (g.E.Evaluator.meaning c.args.evaluator.now) c.loop-frame.process.event c.loop-frame.left c.loop-frame.process.stack.items c.pop.new.self.items c.step.new.stack.items c.in-Some.frame c.loop-frame.scene c.step.new.scene c.in-Some.ensures.items (omega arith) (rw c.in-Finishes.is at (c.in_ok-step.ensures.step trees code)) in
    rw (← c.loop-frame.invariant.ran trees code, e) refl
