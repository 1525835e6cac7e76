use Rattle.tb_machine.proofs.Common.{refl}
use Rattle.tb_machine.specs.declared.node.Frame.TheVariants as f
use Rattle.tb_machine.proofs.Stacks.{works-push}
use Rattle.tb_machine.proofs.machine.push_next.Goals as goal

pub returns-in_ok-push-clause-works : goal.returns-in_ok-push-clause-works
returns-in_ok-push-clause-works c = λ nodes tree. (refl, rw (c.in_ok-push.ensures.items, c.in-Some.is) (works-push nodes tree c.args.stack.now.items (f.Do c.in-Some.number)))
