use Rattle.tb_plans.proofs.Common.{refl, subst, Names, names_of, sense, Indexed, OfValue}
use Rattle.tb_plans.proofs.Targets.{index_target}
use Rattle.tb_plans.proofs.left.part_target.Goals as goal

pub returns-in-Some : goal.returns-in-Some
returns-in-Some c =
    let names : Names = names_of c.args.scope.now in
    index_target names (record { name = c.args.name.now; select = Indexed c.args.span c.args.base.now c.args.count.now }) c.vector_of-vector.result c.count_of-size.result c.shape_of-shape.result c.args.base.now c.in-Some.at c.args.bits c.indexed.result c.vector_of-vector.ensures c.count_of-size.ensures c.shape_of-shape.ensures.shape (λ phase store g. refl)
    (subst (OfValue names c.args.base.now (sense names c.args.base.now).shape) c.in-Some.is c.in_ok-at.ensures)
    c.indexed.ensures.updates c.indexed.ensures.fits
