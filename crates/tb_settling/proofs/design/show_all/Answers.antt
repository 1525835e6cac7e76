use Rattle.tb_settling.proofs.Common.{◌≡◌, ℕ, ◌+◌, ◌<◌, ◌≤◌, List, ◌∷◌, length, drop, sym, ap, ◌∙◌, arith, length-map, Bit, Port, number, bits_at, plain, shown, values, settled_nets, Update, World}
use Rattle.tb_settling.proofs.Common.{assigned, whole_updates, whole_update}
use Rattle.tb_settling.proofs.Showing.{drop_whole, whole_past, ports_long}
use Rattle.tb_settling.proofs.design.show_all.Goals as goal

pub loop-port-preserved : goal.loop-port-preserved
loop-port-preserved c =
    let raw = c.args.sim.now.plan.raw in
    let numbers : List ℕ = c.args.outputs.now in
    let ports : List (List Bit) = bits_at raw.outputs in
    let vs : List ℕ = shown (plain (settled_nets c.args.sim.now)) raw in
    let k : ℕ = c.loop-port.port in
    let whole : List Update = whole_updates numbers ports vs in
    let long = ports_long c.args.scene.now.widths numbers ports c.requires in
    let count = length-map raw.outputs (λ (p : Port). p.bits) in
    let values_long : length vs ≡ length ports = length-map ports (λ (bits : List Bit). number (values (settled_nets c.args.sim.now) bits)) in
    let inside : k < length numbers = omega (arith, long, count, c.loop-port-test.true, c.output_count-port-end.ensures) in
    let cut : drop k whole ≡ whole_update numbers ports vs k ∷ drop (k + 1) whole = drop_whole numbers ports vs k long values_long inside in (
      ap (λ (w : World). assigned w (drop (k + 1) whole)) c.show.ensures ∙ ap (assigned c.loop-port.scene) (sym cut) ∙ c.loop-port.invariant.0,
      ap (λ (w : World). w.widths) c.show.ensures ∙ c.loop-port.invariant.1,
    )

pub returns : goal.returns
returns c =
    let raw = c.args.sim.now.plan.raw in
    let numbers : List ℕ = c.args.outputs.now in
    let ports : List (List Bit) = bits_at raw.outputs in
    let vs : List ℕ = shown (plain (settled_nets c.args.sim.now)) raw in
    let long = ports_long c.args.scene.now.widths numbers ports c.requires in
    let count = length-map raw.outputs (λ (p : Port). p.bits) in
    let past : length numbers ≤ c.loop-port.port = omega (arith, long, count, c.loop-port-test.false, c.output_count-port-end.ensures) in
    sym (ap (assigned c.loop-port.scene) (whole_past numbers ports vs c.loop-port.port past)) ∙ c.loop-port.invariant.0
