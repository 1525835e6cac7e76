use Rattle.tb_plans.proofs.Common.{subst, Expr, Names, names_of, IsValueOf, OfValue}
use Rattle.tb_plans.proofs.Writings.{transfer_is}
use Rattle.tb_plans.proofs.sides.writing_to.Goals as goal

pub returns-in-Some : goal.returns-in-Some
returns-in-Some c =
    let names : Names = names_of c.args.scope.now in
    transfer_is names c.args.assignment.now (record { value = c.in-Some.value; target = c.args.target }) c.args.context c.requires.size
    (subst (λ (x : Expr). IsValueOf names x c.args.context c.in-Some.value) c.get-right.ensures (subst (OfValue names c.get-right.result.now c.args.context) c.in-Some.is c.in_ok-value.ensures))
    c.requires.target
