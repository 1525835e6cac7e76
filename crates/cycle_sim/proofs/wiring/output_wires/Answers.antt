use Rattle.cycle_sim.proofs.Common.{◌≡◌, ℕ, ◌<◌, ◌≤◌, List, [], length, get_or, sym, ◌∙◌, ap, subst, arith, Bit, RawNetlist, bits_at, times, driving}
use Rattle.netlist_core.specs.declared.port.Port as port
use Rattle.cycle_sim.proofs.Reading.{read-below, read-placed, output-at, output-inside, output-read, output-narrow, wired-more}
use Rattle.cycle_sim.proofs.wiring.output_wires.Goals as goal

items-are : (raw read : RawNetlist) (items : List port.Port) → read ≡ raw → items ≡ read.outputs → items ≡ raw.outputs
items-are raw read items same is = is ∙ ap (λ (r : RawNetlist). r.outputs) same

inside-of : (rs items : List port.Port) (i : ℕ) → items ≡ rs → i < length items → i < length rs
inside-of rs items i same inside = subst (λ (l : List port.Port). i < length l) same inside

at-of : (rs items : List port.Port) (i : ℕ) (r : port.Port) → items ≡ rs → r ≡ get_or items i r → r ≡ get_or rs i r
at-of rs items i r same is = subst (λ (l : List port.Port). r ≡ get_or l i r) same is

pub wires_of-requires-clause-below : goal.wires_of-requires-clause-below
wires_of-requires-clause-below c = λ n some.
    let plan = c.args.netlist.now in
    let i : ℕ = c.loop-port.port-index in
    let r = c.port-item.result in
    let items = items-are plan.raw c.raw.result.now c.as_slice-port-items.result.now c.raw.ensures.value c.as_slice-port-items.ensures in
    let inside = inside-of plan.raw.outputs c.as_slice-port-items.result.now i items c.loop-port-test.true in
    let at = at-of plan.raw.outputs c.as_slice-port-items.result.now i r items c.port-item.is in
    let below = read-below plan c.raw.ensures.sound n (output-read plan.raw i r inside at n (subst (λ (b : List Bit). 1 ≤ times n b) c.as_slice.ensures some)) in
    omega (arith, below, c.requires.long)

pub wires_of-requires-clause-narrow : goal.wires_of-requires-clause-narrow
wires_of-requires-clause-narrow c =
    let plan = c.args.netlist.now in
    let i : ℕ = c.loop-port.port-index in
    let r = c.port-item.result in
    let items = items-are plan.raw c.raw.result.now c.as_slice-port-items.result.now c.raw.ensures.value c.as_slice-port-items.ensures in
    let inside = inside-of plan.raw.outputs c.as_slice-port-items.result.now i items c.loop-port-test.true in
    let at = at-of plan.raw.outputs c.as_slice-port-items.result.now i r items c.port-item.is in
    subst (λ (b : List Bit). length b ≤ 128) (sym c.as_slice.ensures) (output-narrow plan c.raw.ensures.sound i r inside at)

pub loop-port-preserved : goal.loop-port-preserved
loop-port-preserved c =
    let plan = c.args.netlist.now in
    let i : ℕ = c.loop-port.port-index in
    let r = c.port-item.result in
    let bits : List Bit = c.as_slice.result.now in
    let items = items-are plan.raw c.raw.result.now c.as_slice-port-items.result.now c.raw.ensures.value c.as_slice-port-items.ensures in
    let inside = inside-of plan.raw.outputs c.as_slice-port-items.result.now i items c.loop-port-test.true in
    let at = at-of plan.raw.outputs c.as_slice-port-items.result.now i r items c.port-item.is in
    let is : bits ≡ get_or (bits_at plan.raw.outputs) i [] = c.as_slice.ensures ∙ output-at plan.raw.outputs i r inside at in
    wired-more (driving plan.raw) c.loop-port.wires.items c.push.new.self.items (bits_at plan.raw.outputs) i c.in_ok-wires_of.field-0 bits c.loop-port.invariant c.in_ok-push.ensures.items (output-inside plan.raw.outputs i inside) is (c.in_ok-wires_of.ensures (driving plan.raw) (λ n some. read-placed plan c.raw.ensures.sound c.args.places.now c.requires.placed n (output-read plan.raw i r inside at n (subst (λ (b : List Bit). 1 ≤ times n b) c.as_slice.ensures some))) (sym c.requires.widths))
