use Rattle.cycle_sim.proofs.Common.{◌≡◌, ℕ, ◌<◌, List, length, get_or, ◌∙◌, ap, subst, arith, length-set, Register, RawNetlist, number, values, d_bits, driving, nets_of}
use Rattle.cycle_sim.proofs.Lists.{took}
use Rattle.cycle_sim.proofs.Wired.{wired-length}
use Rattle.cycle_sim.proofs.Computed.{item-some}
use Rattle.cycle_sim.proofs.Reading.{d-inside}
use Rattle.cycle_sim.proofs.Cycles.{next-readable, next-number}
use Rattle.cycle_sim.proofs.state.take_all.Goals as goal

inside-of : (raw read : RawNetlist) (items : List Register) (i : ℕ) → read ≡ raw → items ≡ read.registers → i < length items → i < length raw.registers
inside-of raw read items i same is inside = subst (λ (l : List Register). i < length l) (is ∙ ap (λ (r : RawNetlist). r.registers) same) inside

pub bounds-next-i : goal.bounds-next-i
bounds-next-i c =
    let plan = c.args.netlist.now in
    let i : ℕ = c.loop-i.i in
    let inside = inside-of plan.raw c.raw.result.now c.as_slice-count.result.now i c.raw.ensures.value c.as_slice-count.ensures c.loop-i-test.true in
    let long = wired-length (driving plan.raw) c.args.next.now (d_bits plan.raw.registers) c.requires.wired in
    let within = d-inside plan.raw.registers i inside in
    omega (arith, long, within)

pub wires_number-requires : goal.wires_number-requires
wires_number-requires c =
    let plan = c.args.netlist.now in
    let i : ℕ = c.loop-i.i in
    let inside = inside-of plan.raw c.raw.result.now c.as_slice-count.result.now i c.raw.ensures.value c.as_slice-count.ensures c.loop-i-test.true in
    let long = wired-length (driving plan.raw) c.args.next.now (d_bits plan.raw.registers) c.requires.wired in
    let within = d-inside plan.raw.registers i inside in
    next-readable plan c.raw.ensures.sound c.args.table.now c.requires.numbers c.args.next.now c.requires.wired i c.index-next-i.result inside (omega (arith, long, within)) c.index-next-i.is

pub loop-i-preserved : goal.loop-i-preserved
loop-i-preserved c =
    let plan = c.args.netlist.now in
    let i : ℕ = c.loop-i.i in
    let rs : List Register = plan.raw.registers in
    let inside = inside-of plan.raw c.raw.result.now c.as_slice-count.result.now i c.raw.ensures.value c.as_slice-count.ensures c.loop-i-test.true in
    let long = wired-length (driving plan.raw) c.args.next.now (d_bits rs) c.requires.wired in
    let within = d-inside rs i inside in
    let some = item-some rs i inside in
    let is : c.wires_number.result ≡ number (values (nets_of plan.raw c.args.table.now) (get_or rs i some.0).d) = c.wires_number.ensures.value ∙ next-number plan c.raw.ensures.sound c.args.table.now c.requires.numbers c.args.next.now c.requires.wired i c.index-next-i.result some.0 inside (omega (arith, long, within)) c.index-next-i.is in
    record {
      inside = omega (arith, inside);
      long = length-set c.loop-i.registers.items i c.wires_number.result ∙ c.loop-i.invariant.long;
      taken = took (nets_of plan.raw c.args.table.now) i c.wires_number.result rs some.0 c.loop-i.registers.items c.args.registers.now.items c.loop-i.invariant.taken c.requires.long inside is;
    }
