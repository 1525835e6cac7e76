use Rattle.tb_refusals.proofs.Common.{map, ap, ◌∙◌, names_of, Wrong, first_faults, context_of}
use Rattle.vlog_syntax.specs.declared.expr.Expr.{Expr}
use Rattle.vlog_meaning.specs.Answers.{least}
use Rattle.tb_checks.specs.Expressions.{own_faults}
use Rattle.tb_refusals.proofs.generator.generator_fault.Goals as goal

pub returns : goal.returns
returns c =
    let g = c.args.generator.now in
    let names = names_of c.args.context.scope.now in
    let delay = c.wrong-delay.ensures.first (own_faults names g.delay) (c.own_fault.ensures ∙ ap (λ (x : Expr). least (own_faults names x)) c.get.ensures) in
    c.earlier.ensures.joined (first_faults (context_of c.args.context) g g.first) (map Wrong (own_faults names g.delay)) c.first_value_fault-first.ensures delay
