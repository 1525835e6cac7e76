use Rattle.tb_reading.proofs.Common.{None, inr, IsReason}
use Rattle.tb_wired.specs.declared.wired.Wired.TheVariants as w
use Rattle.tb_reading.proofs.Accepting.{accepted}
use Rattle.tb_reading.proofs.Making.{refused_so, faultless_so, wired_so, settles_so, loops_so, bench_so}
use Rattle.tb_reading.proofs.bench.make.Goals as goal

pub returns-in-Some : goal.returns-in-Some
returns-in-Some c = refused_so c.args.module.now c.args.top.now c.args.netlist.now.raw c.in-Some.error (record { reading = c.in_ok-reading.reading; read = c.in_ok-reading.ensures; reason = rw c.in-Some.is at c.in_ok-error.ensures })

pub wire-requires-clause-faultless : goal.wire-requires-clause-faultless
wire-requires-clause-faultless c = faultless_so c.args.module.now c.in_ok-reading.reading c.scope-scope.result.now c.as_slice-2.result.now c.as_slice-items.result.now c.scope-scope.ensures.scope c.as_slice-2.ensures.value c.as_slice-items.ensures.value (rw c.in_default.is at c.in_ok-error.ensures)

pub assemble-requires-clause-faultless : goal.assemble-requires-clause-faultless
assemble-requires-clause-faultless c = (accepted c.args.module.now c.in_ok-reading.reading (rw c.in_default.is at c.in_ok-error.ensures)).0

pub assemble-requires-clause-settle : goal.assemble-requires-clause-settle
assemble-requires-clause-settle c =
    let r = c.in_ok-reading.reading in
    let none : IsReason c.args.module.now r None = rw c.in_default.is at c.in_ok-error.ensures in
    settles_so c.args.module.now c.args.top.now c.args.netlist.now.raw r c.in-Nets.nets c.in_ok-reading.ensures none (wired_so c.scope-scope.result.now r.signals.scope c.as_slice.result.now r.inputs.items c.as_slice-2.result.now r.outputs.items c.as_slice-items.result.now r.items.items c.in_ok-wired.wired (w.Nets c.in-Nets.nets) c.scope-scope.ensures.scope c.as_slice.ensures.value c.as_slice-2.ensures.value c.as_slice-items.ensures.value c.in-Nets.is c.in_ok-wired.ensures)

pub returns-in-Loop : goal.returns-in-Loop
returns-in-Loop c =
    let r = c.in_ok-reading.reading in
    let none : IsReason c.args.module.now r None = rw c.in_default.is at c.in_ok-error.ensures in
    inr (loops_so c.args.module.now c.args.top.now c.args.netlist.now.raw r c.in-Loop.at c.in_ok-reading.ensures none (wired_so c.scope-scope.result.now r.signals.scope c.as_slice.result.now r.inputs.items c.as_slice-2.result.now r.outputs.items c.as_slice-items.result.now r.items.items c.in_ok-wired.wired (w.Loop c.in-Loop.at) c.scope-scope.ensures.scope c.as_slice.ensures.value c.as_slice-2.ensures.value c.as_slice-items.ensures.value c.in-Loop.is c.in_ok-wired.ensures))

pub returns-in_ok-assemble-in-Nets : goal.returns-in_ok-assemble-in-Nets
returns-in_ok-assemble-in-Nets c = bench_so c.args.module.now c.args.top.now c.args.netlist.now.raw c.in_ok-reading.reading c.in_ok-assemble-in-Nets.field-0 c.in_ok-reading.ensures (rw c.in_default.is at c.in_ok-error.ensures) c.in_ok-assemble-in-Nets.ensures
