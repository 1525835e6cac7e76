use Rattle.tb_plans.proofs.Common.{ℕ, List, map, subst, sym, All, Word, LabelFits, ArmFits}
use Rattle.tb_plans.proofs.Zips.{all_at}
use Rattle.tb_plans.proofs.selection.first_arm.Goals as goal

pub one_agrees-requires : goal.one_agrees-requires
one_agrees-requires c =
    let widths : List ℕ = map (λ (w : Word). w.width) c.args.store.now in
    subst (All (LabelFits widths)) (sym c.as_slice.ensures) (all_at (ArmFits widths) c.args.arms.now c.loop-number.number c.index-arms-number.result c.index-arms-number.is c.loop-number-test.true c.requires)
