use Rattle.flat_assigns.proofs.Common.{refl, names_of}
use Rattle.flat_assigns.proofs.Leaves.{indexed_form, indexed_index, indexed_kept, indexed_refused}
use Rattle.flat_assigns.proofs.scan.indexed.Goals as goal

pub returns-in-Some : goal.returns-in-Some
returns-in-Some c =
    indexed_refused (names_of c.args.scope.now) c.args.slices.now.items c.args.slices.now.items c.args.left.now c.args.name.now c.args.index.now c.in_ok-form.form c.fault_in.result c.index_target-target.result c.earlier.result c.in-Some.field-0 c.requires c.in_ok-form.ensures c.fault_in.ensures c.index_target-target.ensures c.earlier.ensures.earlier c.in-Some.is refl

pub shape_of-size-requires-in-None : goal.shape_of-size-requires-in-None
shape_of-size-requires-in-None c =
    indexed_form (names_of c.args.scope.now) c.args.left.now c.args.name.now c.args.index.now c.in_ok-form.form c.fault_in.result c.index_target-target.result c.earlier.result c.requires c.in_ok-form.ensures c.fault_in.ensures c.index_target-target.ensures c.earlier.ensures.earlier c.in-None.is

pub bound_of-requires : goal.bound_of-requires
bound_of-requires c =
    indexed_index (names_of c.args.scope.now) c.args.left.now c.args.name.now c.args.index.now c.in_ok-form.form c.fault_in.result c.index_target-target.result c.earlier.result c.requires c.in_ok-form.ensures c.fault_in.ensures c.index_target-target.ensures c.earlier.ensures.earlier c.in-None.is

pub returns : goal.returns
returns c =
    indexed_kept (names_of c.args.scope.now) c.args.slices.now.items c.keep.new.slices.items c.args.left.now c.args.name.now c.args.index.now c.in_ok-form.form c.fault_in.result c.index_target-target.result c.earlier.result c.bound_of.result c.shape_of-size.result c.of.result c.requires c.in_ok-form.ensures c.fault_in.ensures c.index_target-target.ensures c.earlier.ensures.earlier c.in-None.is c.bound_of.ensures.value c.shape_of-size.ensures.shape c.of.ensures.part c.of.ensures.inside c.in_ok-keep-in-None.ensures
