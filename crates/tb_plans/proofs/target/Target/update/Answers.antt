use Rattle.tb_plans.proofs.Common.{◌≤◌, ℕ, List, map, ap, sym, ◌∙◌, subst, Word, store_of, wider, Target, target_updates, TargetFits}
use Rattle.tb_plans.proofs.Targets.{filled}
use Rattle.tb_plans.proofs.target.Target.update.Goals as goal

pub returns-in-Filled : goal.returns-in-Filled
returns-in-Filled c =
    let widths : List ℕ = map (λ (w : Word). w.width) c.args.store.now in
    let room : (1 ≤ c.in-Filled.width) × (c.requires.bits ≤ c.in-Filled.width) = subst (λ (t : Target). TargetFits widths c.requires.bits t) c.in-Filled.is c.requires.target in
    filled c.in-Filled.signal c.in-Filled.low c.in-Filled.width c.args.value room.0 (wider c.args.value c.requires.bits c.in-Filled.width c.requires.value room.1)
    ∙ ap (λ (t : Target). target_updates t (store_of c.args.store.now) c.args.value) (sym c.in-Filled.is)
