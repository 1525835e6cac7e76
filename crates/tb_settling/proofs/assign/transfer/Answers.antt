use Rattle.tb_settling.proofs.Common.{sym, subst, TransferFits}
use Rattle.tb_settling.proofs.Planning.{copied_known, copied_wide, copied_applies}
use Rattle.tb_settling.proofs.assign.transfer.Goals as goal

pub copied-requires : goal.copied-requires
copied-requires c = subst (λ l. TransferFits l c.args.plan.now) (sym c.store.ensures.widths) c.requires.fits

pub set_whole-requires-clause-known : goal.set_whole-requires-clause-known
set_whole-requires-clause-known c = copied_known c.args.plan.now c.store.result.now c.args.scene.now c.store.ensures.values c.store.ensures.widths c.in-Some.copied c.in-Some.ensures

pub set_whole-requires-clause-width : goal.set_whole-requires-clause-width
set_whole-requires-clause-width c = copied_wide c.args.plan.now c.store.result.now c.args.scene.now c.store.ensures.values c.store.ensures.widths c.in-Some.copied c.in-Some.ensures

pub returns-in-Some : goal.returns-in-Some
returns-in-Some c = copied_applies c.args.plan.now c.store.result.now c.args.scene.now c.store.ensures.values c.store.ensures.widths c.in-Some.copied c.in-Some.ensures c.set_whole.new.scene c.set_whole.ensures
