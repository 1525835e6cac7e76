use Rattle.tb_settling.proofs.Common.{List, ℕ, sym, subst, TransferFits}
use Rattle.tb_settling.proofs.Planning.{one_fits, one_applies, none_applies}
use Rattle.tb_settling.proofs.assign.update.Goals as goal

pub update-requires : goal.update-requires
update-requires c = subst (λ (l : List ℕ). TransferFits l c.args.plan.now) (sym c.store.ensures.widths) c.requires.fits

pub assign_one-requires : goal.assign_one-requires
assign_one-requires c = one_fits c.args.plan.now c.store.result.now c.args.scene.now c.store.ensures.values c.update.result c.update.ensures c.in-Some.update c.in-Some.is c.requires.inside

pub returns-in-Some : goal.returns-in-Some
returns-in-Some c = one_applies c.args.plan.now c.store.result.now c.args.scene.now c.store.ensures.values c.update.result c.update.ensures c.in-Some.update c.in-Some.is c.assign_one.new.self c.assign_one.ensures

pub returns-in-None : goal.returns-in-None
returns-in-None c = none_applies c.args.plan.now c.store.result.now c.args.scene.now c.store.ensures.values c.update.result c.update.ensures c.in-None.is
