use Rattle.std.proofs.lemmas.Result.{on_ok_weaker}
use Rattle.elab_items.proofs.Common.{flat_of}
use Rattle.elab_items.proofs.Building.{assigns_built}
use Rattle.elab_items.proofs.Standing.{builds_hold}
use Rattle.elab_items.proofs.item.add_item.Goals as goal

pub returns-in-Assigns-clause-holds : goal.returns-in-Assigns-clause-holds
returns-in-Assigns-clause-holds c =
    let places = (flat_of c.args.flat.now).places in
    on_ok_weaker c.build_sides.result (λ h. builds_hold c.args.inputs.now places _ c.args.builder.now c.build_sides.new.builder c.args.desk.now (assigns_built c.args.inputs.now places c.in-Assigns.place c.get-left.result.now c.get-right.result.now c.args.builder.now c.build_sides.new.builder h) c.requires.serves.holds) c.build_sides.ensures.built

pub returns-in-Drives-clause-holds : goal.returns-in-Drives-clause-holds
returns-in-Drives-clause-holds c =
    on_ok_weaker c.build_drive.result (λ h. builds_hold c.args.inputs.now (flat_of c.args.flat.now).places _ c.args.builder.now c.build_drive.new.builder c.args.desk.now h c.requires.serves.holds) c.build_drive.ensures.built

pub returns-in-Enters-clause-holds : goal.returns-in-Enters-clause-holds
returns-in-Enters-clause-holds c =
    on_ok_weaker c.build_enter.result (λ h. builds_hold c.args.inputs.now (flat_of c.args.flat.now).places _ c.args.builder.now c.build_enter.new.builder c.args.desk.now h c.requires.serves.holds) c.build_enter.ensures.built

pub returns-in-Open-clause-holds : goal.returns-in-Open-clause-holds
returns-in-Open-clause-holds c =
    on_ok_weaker c.build_open.result (λ h. builds_hold c.args.inputs.now (flat_of c.args.flat.now).places _ c.args.builder.now c.build_open.new.builder c.args.desk.now h c.requires.serves.holds) c.build_open.ensures.built

pub returns-in-Leaves-clause-holds : goal.returns-in-Leaves-clause-holds
returns-in-Leaves-clause-holds c =
    on_ok_weaker c.build_leave.result (λ h. builds_hold c.args.inputs.now (flat_of c.args.flat.now).places _ c.args.builder.now c.build_leave.new.builder c.args.desk.now h c.requires.serves.holds) c.build_leave.ensures.built
