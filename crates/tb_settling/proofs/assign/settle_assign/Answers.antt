use Rattle.tb_settling.proofs.Common.{Option, subst, names_of, Transfer, IsTransferOf, OfTransfer}
use Rattle.tb_settling.proofs.Planning.{plan_fits, plan_applies}
use Rattle.tb_settling.proofs.assign.settle_assign.Goals as goal

pub transfer-requires-clause-fits : goal.transfer-requires-clause-fits
transfer-requires-clause-fits c =
    let of : IsTransferOf (names_of c.args.scope.now) c.args.assignment.now c.in-Some.plan = subst (λ (o : Option Transfer). OfTransfer (names_of c.args.scope.now) c.args.assignment.now o) c.in-Some.is c.requires.plan in
    of.fits c.args.scene.now.widths c.requires.signals

pub transfer-requires-clause-inside : goal.transfer-requires-clause-inside
transfer-requires-clause-inside c =
    let of : IsTransferOf (names_of c.args.scope.now) c.args.assignment.now c.in-Some.plan = subst (λ (o : Option Transfer). OfTransfer (names_of c.args.scope.now) c.args.assignment.now o) c.in-Some.is c.requires.plan in
    plan_fits (names_of c.args.scope.now) c.args.assignment.now c.in-Some.plan of c.args.phase c.args.scene.now c.requires.signals

pub returns : goal.returns
returns c =
    let of : IsTransferOf (names_of c.args.scope.now) c.args.assignment.now c.in-Some.plan = subst (λ (o : Option Transfer). OfTransfer (names_of c.args.scope.now) c.args.assignment.now o) c.in-Some.is c.requires.plan in
    plan_applies (names_of c.args.scope.now) c.args.assignment.now c.in-Some.plan of c.args.phase c.args.scene.now c.transfer.new.scene c.transfer.ensures
