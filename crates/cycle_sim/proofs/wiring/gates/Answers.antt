use Rattle.cycle_sim.proofs.Common.{◌≡◌, ℕ, ◌<◌, ◌≤◌, List, length, get_or, refl, sym, ◌∙◌, ap, subst, arith, Bit, Cell, input_ports, output_port, times_at, driving, Gate, AllWired, IsGate, cells-of}
use Rattle.cycle_sim.proofs.Wired.{AllNarrow}
use Rattle.cycle_sim.proofs.Reading.{read-below, read-placed, cell-read, inputs-narrow, y-few, gates-more}
use Rattle.cycle_sim.proofs.wiring.gates.Goals as goal

inside-of : (rs items : List Cell) (i : ℕ) → items ≡ rs → i < length items → i < length rs
inside-of rs items i same inside = subst (λ (l : List Cell). i < length l) same inside

at-of : (rs items : List Cell) (i : ℕ) (r : Cell) → items ≡ rs → r ≡ get_or items i r → r ≡ get_or rs i r
at-of rs items i r same is = subst (λ (l : List Cell). r ≡ get_or l i r) same is

pub wires_at-requires-clause-below : goal.wires_at-requires-clause-below
wires_at-requires-clause-below c = λ n some.
    let plan = c.args.netlist.now in
    let i : ℕ = c.loop-cell.cell-index in
    let cell = c.cell-item.result in
    let items = cells-of plan.raw c.raw.result.now c.as_slice-cell-items.result.now c.raw.ensures.value c.as_slice-cell-items.ensures in
    let inside = inside-of plan.raw.cells c.as_slice-cell-items.result.now i items c.loop-cell-test.true in
    let at = at-of plan.raw.cells c.as_slice-cell-items.result.now i cell items c.cell-item.is in
    let ins : c.input_ports.result.now ≡ input_ports cell.ports = c.input_ports.ensures ∙ ap input_ports c.as_slice-in-loop-cell.ensures in
    let below = read-below plan c.raw.ensures.sound n (cell-read plan.raw i cell inside at n (subst (λ (p : List (List Bit)). 1 ≤ times_at n p) ins some)) in
    omega (arith, below, c.requires.long)

pub wires_at-requires-clause-narrow : goal.wires_at-requires-clause-narrow
wires_at-requires-clause-narrow c =
    let plan = c.args.netlist.now in
    let i : ℕ = c.loop-cell.cell-index in
    let cell = c.cell-item.result in
    let items = cells-of plan.raw c.raw.result.now c.as_slice-cell-items.result.now c.raw.ensures.value c.as_slice-cell-items.ensures in
    let inside = inside-of plan.raw.cells c.as_slice-cell-items.result.now i items c.loop-cell-test.true in
    let at = at-of plan.raw.cells c.as_slice-cell-items.result.now i cell items c.cell-item.is in
    let ins : c.input_ports.result.now ≡ input_ports cell.ports = c.input_ports.ensures ∙ ap input_ports c.as_slice-in-loop-cell.ensures in
    subst AllNarrow (sym ins) (inputs-narrow plan c.raw.ensures.sound i cell inside at)

pub overflow_cast-output_port : goal.overflow_cast-output_port
overflow_cast-output_port c =
    let plan = c.args.netlist.now in
    let i : ℕ = c.loop-cell.cell-index in
    let cell = c.cell-item.result in
    let items = cells-of plan.raw c.raw.result.now c.as_slice-cell-items.result.now c.raw.ensures.value c.as_slice-cell-items.ensures in
    let inside = inside-of plan.raw.cells c.as_slice-cell-items.result.now i items c.loop-cell-test.true in
    let at = at-of plan.raw.cells c.as_slice-cell-items.result.now i cell items c.cell-item.is in
    let long = ap (λ (b : List Bit). length b) (c.output_port.ensures ∙ ap output_port c.as_slice.ensures) in
    let few = y-few plan c.raw.ensures.sound i cell inside at in
    omega (arith, long, few)

pub loop-cell-preserved : goal.loop-cell-preserved
loop-cell-preserved c =
    let plan = c.args.netlist.now in
    let i : ℕ = c.loop-cell.cell-index in
    let cell = c.cell-item.result in
    let items = cells-of plan.raw c.raw.result.now c.as_slice-cell-items.result.now c.raw.ensures.value c.as_slice-cell-items.ensures in
    let inside = inside-of plan.raw.cells c.as_slice-cell-items.result.now i items c.loop-cell-test.true in
    let at = at-of plan.raw.cells c.as_slice-cell-items.result.now i cell items c.cell-item.is in
    let ins : c.input_ports.result.now ≡ input_ports cell.ports = c.input_ports.ensures ∙ ap input_ports c.as_slice-in-loop-cell.ensures in
    let wired = c.in_ok-wires_at.ensures (driving plan.raw) (λ n some. read-placed plan c.raw.ensures.sound c.args.places.now c.requires.placed n (cell-read plan.raw i cell inside at n (subst (λ (p : List (List Bit)). 1 ≤ times_at n p) ins some))) (sym c.requires.widths) in
    let gate : Gate = record { kind = cell.kind; is_signed = cell.is_signed; width = length c.output_port.result.now; ports = c.in_ok-wires_at.field-0 } in
    let is : IsGate (driving plan.raw) gate cell = record {
      kind = refl;
      is_signed = refl;
      width = ap (λ (b : List Bit). length b) (c.output_port.ensures ∙ ap output_port c.as_slice.ensures);
      ports = subst (λ (p : List (List Bit)). AllWired (driving plan.raw) c.in_ok-wires_at.field-0 p) ins wired;
    } in
    gates-more (driving plan.raw) c.loop-cell.gates.items c.push.new.self.items plan.raw.cells i gate cell c.loop-cell.invariant c.in_ok-push.ensures.items inside at is
