use Rattle.cycle_sim.proofs.Common.{◌≡◌, ℕ, ◌<◌, List, [], length, get_or, slice_get, Some, sym, ◌∙◌, ap, subst, arith, get_or-map, Bit, number, Nets, plain, values, bits_at, shown, Plan, driving}
use Rattle.cycle_sim.proofs.Common.{IsReadable, parts_number, Simulated, nets_of, settled_nets}
use Rattle.std.proofs.Common.{slice_index}
use Rattle.cycle_sim.proofs.Wired.{wired-length, wires-number}
use Rattle.cycle_sim.proofs.Plans.{table-numbers}
use Rattle.cycle_sim.proofs.Reading.{output-inside}
use Rattle.cycle_sim.proofs.Cycles.{output-readable, output-wired, output-is}
use Rattle.cycle_sim.proofs.sim.Sim.output.Goals as goal

inside-of : (plan now : Plan) (i : ℕ) → plan ≡ now → i < length now.raw.outputs → i < length plan.raw.outputs
inside-of plan now i same inside = subst (λ (p : Plan). i < length p.raw.outputs) (sym same) inside

pub index-requires : goal.index-requires
index-requires c =
    let plan = c.self.inside.netlist in
    let inside = inside-of plan c.args.self.now.plan c.args.port (ap (λ (s : Simulated). s.plan) c.self.view_is) c.requires in
    let long = wired-length (driving plan.raw) c.self.inside.outputs.items (bits_at plan.raw.outputs) c.self.invariant.outputs in
    let within = output-inside plan.raw.outputs c.args.port inside in
    omega (arith, long, within, c.self.inside.outputs.ok.0)

pub word_at-requires : goal.word_at-requires
word_at-requires c =
    let plan = c.self.inside.netlist in
    let inside = inside-of plan c.args.self.now.plan c.args.port (ap (λ (s : Simulated). s.plan) c.self.view_is) c.requires in
    let long = wired-length (driving plan.raw) c.self.inside.outputs.items (bits_at plan.raw.outputs) c.self.invariant.outputs in
    let within = output-inside plan.raw.outputs c.args.port inside in
    subst (λ (t : List ℕ). IsReadable t c.index.result.now) (sym c.as_slice.ensures.value) (output-readable plan c.self.invariant.sound c.self.inside.table.items c.self.invariant.numbers c.self.inside.outputs.items c.self.invariant.outputs c.args.port c.index.result.now inside (omega (arith, long, within)) c.index.ensures)

pub returns-clause-width : goal.returns-clause-width
returns-clause-width c = λ p is.
    let plan = c.self.inside.netlist in
    let plan_is : plan ≡ c.args.self.now.plan = ap (λ (s : Simulated). s.plan) c.self.view_is in
    let inside = inside-of plan c.args.self.now.plan c.args.port plan_is c.requires in
    let long = wired-length (driving plan.raw) c.self.inside.outputs.items (bits_at plan.raw.outputs) c.self.invariant.outputs in
    let within = output-inside plan.raw.outputs c.args.port inside in
    let wired = output-wired plan c.self.inside.outputs.items c.self.invariant.outputs c.args.port c.index.result.now (omega (arith, long, within)) c.index.ensures in
    let found : slice_get plan.raw.outputs c.args.port ≡ Some p = subst (λ (q : Plan). slice_get q.raw.outputs c.args.port ≡ Some p) (sym plan_is) is in
    c.word_at.ensures.width ∙ wired.width ∙ ap (λ (b : List Bit). length b) (output-is plan.raw.outputs c.args.port p found)

pub returns-clause-bits : goal.returns-clause-bits
returns-clause-bits c =
    let plan = c.self.inside.netlist in
    let table : List ℕ = c.self.inside.table.items in
    let nets : Nets = nets_of plan.raw table in
    let wires = c.index.result.now in
    let inside = inside-of plan c.args.self.now.plan c.args.port (ap (λ (s : Simulated). s.plan) c.self.view_is) c.requires in
    let long = wired-length (driving plan.raw) c.self.inside.outputs.items (bits_at plan.raw.outputs) c.self.invariant.outputs in
    let within = output-inside plan.raw.outputs c.args.port inside in
    let wired = output-wired plan c.self.inside.outputs.items c.self.invariant.outputs c.args.port wires (omega (arith, long, within)) c.index.ensures in
    let value : c.word_at.result.bits ≡ slice_index (shown (plain nets) plan.raw) c.args.port = c.word_at.ensures.bits
    ∙ ap (λ (t : List ℕ). parts_number t wires.parts) c.as_slice.ensures.value
    ∙ wires-number nets (driving plan.raw) table wires (get_or (bits_at plan.raw.outputs) c.args.port []) (table-numbers plan c.self.invariant.sound table c.self.invariant.numbers) wired
    ∙ sym (get_or-map (λ (bits : List Bit). number (values nets bits)) (bits_at plan.raw.outputs) c.args.port [] 0 within) in
    subst (λ (s : Simulated). c.word_at.result.bits ≡ slice_index (shown (plain (settled_nets s)) s.plan.raw) c.args.port) c.self.view_is value
