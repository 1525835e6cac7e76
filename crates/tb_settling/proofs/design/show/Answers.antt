use Rattle.tb_settling.proofs.Common.{◌≡◌, ℕ, List, [], ◌∷◌, length, sym, ap, ◌∙◌, arith, slice_index, slice_index_or, length-map, Bit, Port, bits_at, Update, assigned}
use Rattle.tb_settling.proofs.Showing.{ports_long, port_width, port_at}
use Rattle.tb_settling.proofs.design.show.Goals as goal

pub set_whole-requires-clause-known : goal.set_whole-requires-clause-known
set_whole-requires-clause-known c =
    let raw = c.args.sim.now.plan.raw in
    let long = ports_long c.args.scene.now.widths c.args.outputs.now (bits_at raw.outputs) c.requires.ports in
    c.requires.ports.known c.args.port 0 (omega (arith, long, c.requires.port, length-map raw.outputs (λ (p : Port). p.bits)))

pub set_whole-requires-clause-width : goal.set_whole-requires-clause-width
set_whole-requires-clause-width c =
    let raw = c.args.sim.now.plan.raw in
    let widths : List ℕ = c.args.scene.now.widths in
    let numbers : List ℕ = c.args.outputs.now in
    let ports : List (List Bit) = bits_at raw.outputs in
    let long = ports_long widths numbers ports c.requires.ports in
    let port = port_at raw.outputs c.args.port c.requires.port in
    c.output.ensures.width port.0 port.1 ∙ port.2 ∙ sym (port_width widths numbers ports c.args.port c.requires.ports (omega (arith, long, c.requires.port, length-map raw.outputs (λ (p : Port). p.bits))))

pub returns : goal.returns
returns c =
    let raw = c.args.sim.now.plan.raw in
    let numbers : List ℕ = c.args.outputs.now in
    let ports : List (List Bit) = bits_at raw.outputs in
    let port = port_at raw.outputs c.args.port c.requires.port in
    let made : ℕ → ℕ → Update = λ w v. record { signal = slice_index numbers c.args.port; low = 0; width = w; value = v } in
    let width : c.output.result.width ≡ length (slice_index_or ports c.args.port []) = c.output.ensures.width port.0 port.1 ∙ port.2 in
    c.set_whole.ensures ∙ ap (λ (w : ℕ). assigned c.args.scene.now (made w c.output.result.bits ∷ [])) width ∙ ap (λ (v : ℕ). assigned c.args.scene.now (made (length (slice_index_or ports c.args.port [])) v ∷ [])) c.output.ensures.bits
