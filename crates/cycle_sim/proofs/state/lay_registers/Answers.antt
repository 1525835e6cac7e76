use Rattle.cycle_sim.proofs.Common.{◌≡◌, ℕ, ◌+◌, ◌^◌, ◌<◌, [], length, get_or, set, refl, sym, ◌∙◌, ap, subst, arith, RawNetlist, q_bits, driving}
use Rattle.cycle_sim.proofs.Lists.{laid-more}
use Rattle.cycle_sim.proofs.Plans.{driving-length, fit-length}
use Rattle.cycle_sim.proofs.Fronts.{stored-inside, stored-small}
use Rattle.cycle_sim.proofs.state.lay_registers.Goals as goal

first-is : (raw read : RawNetlist) (a : ℕ) → read ≡ raw → a ≡ length read.inputs → a ≡ length raw.inputs
first-is raw read a same is = is ∙ ap (λ (r : RawNetlist). length r.inputs) same

pub lay-requires-clause-source : goal.lay-requires-clause-source
lay-requires-clause-source c =
    let raw = c.args.netlist.now.raw in
    let first = first-is raw c.raw.result.now (length c.as_slice-first.result.now) c.raw.ensures.value (ap (λ l. length l) c.as_slice-first.ensures) in
    let count = stored-inside raw c.args.numbers.now (fit-length (q_bits raw.registers) c.args.numbers.now c.requires.fit) in
    let inside = c.loop-i-test.true in
    omega (arith, first, count, inside)

pub lay-requires-clause-fits : goal.lay-requires-clause-fits
lay-requires-clause-fits c =
    let raw = c.args.netlist.now.raw in
    let first = first-is raw c.raw.result.now (length c.as_slice-first.result.now) c.raw.ensures.value (ap (λ l. length l) c.as_slice-first.ensures) in
    subst (λ (n : ℕ). get_or c.args.numbers.now c.loop-i.i 0 < 2 ^ length (get_or (driving raw) (n + c.loop-i.i) [])) (sym first) (stored-small raw c.args.numbers.now c.loop-i.i c.requires.fit (fit-length (q_bits raw.registers) c.args.numbers.now c.requires.fit) c.loop-i-test.true)

pub loop-i-preserved : goal.loop-i-preserved
loop-i-preserved c =
    let raw = c.args.netlist.now.raw in
    let i : ℕ = c.loop-i.i in
    let n : ℕ = length raw.inputs in
    let first = first-is raw c.raw.result.now (length c.as_slice-first.result.now) c.raw.ensures.value (ap (λ l. length l) c.as_slice-first.ensures) in
    let count = stored-inside raw c.args.numbers.now (fit-length (q_bits raw.registers) c.args.numbers.now c.requires.fit) in
    let long = fit-length (driving raw) c.args.table.now.items c.requires.held.fit in
    let all = driving-length raw in
    let put : c.lay.new.table.items ≡ set c.loop-i.table.items (n + i) (get_or c.args.numbers.now i 0) = c.lay.ensures.table ∙ ap (λ (k : ℕ). set c.loop-i.table.items (k + i) (get_or c.args.numbers.now i 0)) first in
    (c.lay.ensures.held, put ∙ laid-more n i (get_or c.args.numbers.now i 0) c.args.numbers.now c.loop-i.table.items c.args.table.now.items c.loop-i.invariant.1 (omega (arith, count, long, all)) c.loop-i-test.true refl)
