use Rattle.mcy_top.proofs.Common.{length, ap, arith, ◌∙◌, first_unnamed, plan_fit}
use Rattle.mcy_top.proofs.work.Task.lacking.Goals as goal

pub overflow_cast-mutations : goal.overflow_cast-mutations
overflow_cast-mutations c = omega (arith, ap length c.as_slice.ensures, (plan_fit c.args.self.now.prepared.now c.requires).few_mutations)

pub returns : goal.returns
returns c = c.unnamed.ensures ∙ ap (λ n. first_unnamed n c.args.goal.now.mutations) (ap length c.as_slice.ensures)
