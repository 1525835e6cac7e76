use Rattle.cycle_sim.proofs.Common.{◌≡◌, ℕ, ◌+◌, ◌^◌, ◌<◌, ◌≤◌, List, [], ◌++◌, map, length, take, drop, get_or, set, sym, ◌∙◌, ap, subst, arith, slice_index, length-map, take-map, driving}
use Rattle.cycle_sim.proofs.Common.{numbers_of}
use Rattle.cycle_sim.proofs.Lists.{laid-more}
use Rattle.cycle_sim.proofs.Plans.{driving-length, fit-length}
use Rattle.cycle_sim.proofs.Fronts.{named-inside, named-small, named-bits}
use Rattle.cycle_sim.proofs.state.lay_named.Goals as goal

pub bounds-store-numbers : goal.bounds-store-numbers
bounds-store-numbers c = c.requires.inside c.loop-i.i 0 c.loop-i-test.true

pub lay-requires-clause-source : goal.lay-requires-clause-source
lay-requires-clause-source c =
    let count = named-inside c.args.netlist.now.raw (map (λ w. w.width) c.args.store.now) c.args.numbers.now c.requires.widths in
    let inside = c.loop-i-test.true in
    omega (arith, count, inside)

pub lay-requires-clause-fits : goal.lay-requires-clause-fits
lay-requires-clause-fits c =
    let raw = c.args.netlist.now.raw in
    subst (λ (v : ℕ). v < 2 ^ length (get_or (driving raw) c.loop-i.i [])) (sym c.bits.ensures.bits) (named-small raw c.args.store.now c.args.numbers.now c.loop-i.i c.index-store-numbers.result c.requires.widths c.loop-i-test.true (c.requires.inside c.loop-i.i 0 c.loop-i-test.true) c.index-store-numbers.is)

-- one more number
named-more : (i v : ℕ) (numbers store table new first : List ℕ) → table ≡ map (slice_index store) (take i numbers) ++ drop i first → length numbers ≤ length first → i < length numbers → v ≡ get_or (map (slice_index store) numbers) i 0 → new ≡ set table i v → new ≡ map (slice_index store) (take (i + 1) numbers) ++ drop (i + 1) first
named-more i v numbers store table new first is long inside at put =
    let all : List ℕ = map (slice_index store) numbers in
    let count = length-map numbers (slice_index store) in
    let z : 0 + i ≡ i = omega arith in
    let y : 0 + (i + 1) ≡ i + 1 = omega arith in
    let before : table ≡ take i all ++ drop (0 + i) first = is ∙ ap (λ (l : List ℕ). l ++ drop i first) (sym (take-map (slice_index store) i numbers)) ∙ ap (λ (k : ℕ). take i all ++ drop k first) (sym z) in
    put ∙ ap (λ (k : ℕ). set table k v) (sym z) ∙ laid-more 0 i v all table first before (omega (arith, count, long)) (omega (arith, count, inside)) at ∙ ap (λ (k : ℕ). take (i + 1) all ++ drop k first) y ∙ ap (λ (l : List ℕ). l ++ drop (i + 1) first) (take-map (slice_index store) (i + 1) numbers)

pub loop-i-preserved : goal.loop-i-preserved
loop-i-preserved c =
    let raw = c.args.netlist.now.raw in
    let i : ℕ = c.loop-i.i in
    let count = named-inside raw (map (λ w. w.width) c.args.store.now) c.args.numbers.now c.requires.widths in
    let long = fit-length (driving raw) c.args.table.now.items c.requires.held.fit in
    let all = driving-length raw in
    let bits = c.bits.ensures.bits ∙ named-bits c.args.store.now c.args.numbers.now i c.index-store-numbers.result c.loop-i-test.true (c.requires.inside i 0 c.loop-i-test.true) c.index-store-numbers.is in
    (c.lay.ensures.held, named-more i c.bits.result c.args.numbers.now (numbers_of c.args.store.now) c.loop-i.table.items c.lay.new.table.items c.args.table.now.items c.loop-i.invariant.1 (omega (arith, count, long, all)) c.loop-i-test.true bits c.lay.ensures.table)
