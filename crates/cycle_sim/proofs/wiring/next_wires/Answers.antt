use Rattle.cycle_sim.proofs.Common.{◌≡◌, ℕ, ◌<◌, ◌≤◌, List, [], length, get_or, sym, ◌∙◌, ap, subst, arith, Bit, Register, RawNetlist, d_bits, times, driving}
use Rattle.cycle_sim.proofs.Reading.{read-below, read-placed, d-at, d-inside, d-read, d-narrow, wired-more}
use Rattle.cycle_sim.proofs.wiring.next_wires.Goals as goal

items-are : (raw read : RawNetlist) (items : List Register) → read ≡ raw → items ≡ read.registers → items ≡ raw.registers
items-are raw read items same is = is ∙ ap (λ (r : RawNetlist). r.registers) same

inside-of : (rs items : List Register) (i : ℕ) → items ≡ rs → i < length items → i < length rs
inside-of rs items i same inside = subst (λ (l : List Register). i < length l) same inside

at-of : (rs items : List Register) (i : ℕ) (r : Register) → items ≡ rs → r ≡ get_or items i r → r ≡ get_or rs i r
at-of rs items i r same is = subst (λ (l : List Register). r ≡ get_or l i r) same is

pub wires_of-requires-clause-below : goal.wires_of-requires-clause-below
wires_of-requires-clause-below c = λ n some.
    let plan = c.args.netlist.now in
    let i : ℕ = c.loop-register.register-index in
    let r = c.register-item.result in
    let items = items-are plan.raw c.raw.result.now c.as_slice-register-items.result.now c.raw.ensures.value c.as_slice-register-items.ensures in
    let inside = inside-of plan.raw.registers c.as_slice-register-items.result.now i items c.loop-register-test.true in
    let at = at-of plan.raw.registers c.as_slice-register-items.result.now i r items c.register-item.is in
    let below = read-below plan c.raw.ensures.sound n (d-read plan.raw i r inside at n (subst (λ (b : List Bit). 1 ≤ times n b) c.as_slice.ensures some)) in
    omega (arith, below, c.requires.long)

pub wires_of-requires-clause-narrow : goal.wires_of-requires-clause-narrow
wires_of-requires-clause-narrow c =
    let plan = c.args.netlist.now in
    let i : ℕ = c.loop-register.register-index in
    let r = c.register-item.result in
    let items = items-are plan.raw c.raw.result.now c.as_slice-register-items.result.now c.raw.ensures.value c.as_slice-register-items.ensures in
    let inside = inside-of plan.raw.registers c.as_slice-register-items.result.now i items c.loop-register-test.true in
    let at = at-of plan.raw.registers c.as_slice-register-items.result.now i r items c.register-item.is in
    subst (λ (b : List Bit). length b ≤ 128) (sym c.as_slice.ensures) (d-narrow plan c.raw.ensures.sound i r inside at)

pub loop-register-preserved : goal.loop-register-preserved
loop-register-preserved c =
    let plan = c.args.netlist.now in
    let i : ℕ = c.loop-register.register-index in
    let r = c.register-item.result in
    let bits : List Bit = c.as_slice.result.now in
    let items = items-are plan.raw c.raw.result.now c.as_slice-register-items.result.now c.raw.ensures.value c.as_slice-register-items.ensures in
    let inside = inside-of plan.raw.registers c.as_slice-register-items.result.now i items c.loop-register-test.true in
    let at = at-of plan.raw.registers c.as_slice-register-items.result.now i r items c.register-item.is in
    let is : bits ≡ get_or (d_bits plan.raw.registers) i [] = c.as_slice.ensures ∙ d-at plan.raw.registers i r inside at in
    wired-more (driving plan.raw) c.loop-register.wires.items c.push.new.self.items (d_bits plan.raw.registers) i c.in_ok-wires_of.field-0 bits c.loop-register.invariant c.in_ok-push.ensures.items (d-inside plan.raw.registers i inside) is (c.in_ok-wires_of.ensures (driving plan.raw) (λ n some. read-placed plan c.raw.ensures.sound c.args.places.now c.requires.placed n (d-read plan.raw i r inside at n (subst (λ (b : List Bit). 1 ≤ times n b) c.as_slice.ensures some))) (sym c.requires.widths))
