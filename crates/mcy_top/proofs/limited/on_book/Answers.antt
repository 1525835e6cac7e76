use Rattle.mcy_top.proofs.Limiting.{limited_plan, limited_runs, limited_work, memory_work, refused_work}
use Rattle.mcy_top.proofs.limited.on_book.Goals as goal

pub refuse-requires-clause-unfit : goal.refuse-requires-clause-unfit
refuse-requires-clause-unfit g c = rw c.in-None.is at c.in-Ok.ensures

pub carry_out-requires-clause-plan : goal.carry_out-requires-clause-plan
carry_out-requires-clause-plan g c = limited_plan c.args.command c.args.goal.now c.args.prepared c.with_cycles-limited.result c.in-Some.cycles (rw c.in-Some.is at c.in-Ok.ensures) c.with_cycles-limited.ensures c.requires.plan

pub carry_out-requires-clause-limit : goal.carry_out-requires-clause-limit
carry_out-requires-clause-limit g c = limited_runs c.args.command c.args.goal.now c.args.prepared c.with_cycles-limited.result c.in-Some.cycles (rw c.in-Some.is at c.in-Ok.ensures) c.with_cycles-limited.ensures

pub returns-in-Some-clause-work : goal.returns-in-Some-clause-work
returns-in-Some-clause-work g c tells =
    limited_work c.args.command c.args.goal.now c.args.prepared c.with_cycles-limited.result c.in-Some.cycles (rw c.in-Some.is at c.in-Ok.ensures) c.with_cycles-limited.ensures
    (g.K.Keeper.leaves c.carry_out.new.keeper) (g.O.Sink.written c.args.out.now) (g.O.Sink.written c.carry_out.new.out) c.args.steps.now c.carry_out.new.steps c.args.loaded.now c.carry_out.result (c.carry_out.ensures.work tells)

pub returns-in-None-clause-work : goal.returns-in-None-clause-work
returns-in-None-clause-work g c tells =
    refused_work (g.K.Keeper.leaves c.args.keeper.now) (g.O.Sink.written c.args.out.now) (g.O.Sink.written c.args.out.now) c.args.steps.now c.args.steps.now c.args.command c.args.goal.now c.args.prepared c.args.loaded.now c.refuse.result c.refuse.ensures.stays (c.refuse.ensures.work tells (g.O.Sink.written c.args.out.now) c.args.steps.now)

pub returns-in-None-clause-ends : goal.returns-in-None-clause-ends
returns-in-None-clause-ends g c = c.refuse.ensures.ends (g.O.Sink.written c.args.out.now) (g.K.Keeper.faults c.args.keeper.now) (g.O.Sink.faults c.args.out.now)

pub returns-in_default-clause-work : goal.returns-in_default-clause-work
returns-in_default-clause-work g c tells = memory_work (g.K.Keeper.holds c.args.keeper.now) (g.K.Keeper.leaves c.args.keeper.now) (g.O.Sink.written c.args.out.now) c.args.steps.now c.args.command c.args.goal.now c.args.prepared c.args.loaded.now (c.requires.kept tells)
