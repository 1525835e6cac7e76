use Rattle.tb_plans.proofs.Common.{map, subst, sym, All, Word, ArmFits}
use Rattle.tb_plans.proofs.selection.Selection.taken.Goals as goal

pub first_arm-requires : goal.first_arm-requires
first_arm-requires c = subst (All (ArmFits (map (λ (w : Word). w.width) c.args.store.now))) (sym c.as_slice.ensures) c.requires.arms
