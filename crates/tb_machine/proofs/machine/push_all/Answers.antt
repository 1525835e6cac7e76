use Rattle.tb_machine.proofs.Common.{◌∙◌, ◌-◌, ◌∷◌, ap, arith, get_or, List, Work, Do}
use Rattle.tb_machine.specs.declared.node.Frame.TheVariants as f
use Rattle.tb_machine.proofs.Stacks.{works-push, below-push, block-step}
use Rattle.tb_machine.proofs.machine.push_all.Goals as goal

pub loop-left-preserved : goal.loop-left-preserved
loop-left-preserved c =
    let i = c.loop-left.left - 1 in
    let x = get_or c.args.body.now i 0 in
    record {
      within = omega arith;
      works = λ nodes tree. rw c.in_ok-push.ensures.items (works-push nodes tree c.loop-left.stack.items (f.Do x) ∙ (ap (λ (k : List Work). Do (tree x) ∷ k) (c.loop-left.invariant.works nodes tree) ∙ block-step tree c.args.body.now i c.loop-left.left _ (omega arith) (omega arith)));
      below = λ limit below body. rw c.in_ok-push.ensures.items (below-push limit c.loop-left.stack.items (f.Do x) (c.loop-left.invariant.below limit below body) (body i 0 (omega arith)));
    }
