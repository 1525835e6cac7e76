use Rattle.flat_assigns.proofs.Common.{refl, names_of}
use Rattle.flat_assigns.proofs.Leaves.{name_kept, name_refused}
use Rattle.flat_assigns.proofs.scan.whole.Goals as goal

pub returns-in-Some : goal.returns-in-Some
returns-in-Some c =
    name_refused (names_of c.args.scope.now) c.args.slices.now.items c.args.slices.now.items c.args.left.now c.args.name.now c.in_ok-form.form c.fault_in.result c.constant_target-target.result c.earlier.result c.in-Some.field-0 c.requires c.in_ok-form.ensures c.fault_in.ensures c.constant_target-target.ensures c.earlier.ensures.earlier c.in-Some.is refl

pub returns : goal.returns
returns c =
    name_kept (names_of c.args.scope.now) c.args.slices.now.items c.keep.new.slices.items c.args.left.now c.args.name.now c.in_ok-form.form c.fault_in.result c.constant_target-target.result c.earlier.result c.whole.result c.requires c.in_ok-form.ensures c.fault_in.ensures c.constant_target-target.ensures c.earlier.ensures.earlier c.in-None.is c.whole.ensures.part c.whole.ensures.inside c.in_ok-keep-in-None.ensures
