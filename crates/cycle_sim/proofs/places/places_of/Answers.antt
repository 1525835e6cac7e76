use Rattle.cycle_sim.proofs.Common.{◌≡◌, ℕ, ◌<◌, ◌≤◌, List, [], length, get_or, sym, ◌∙◌, ap, subst, arith, Bit, RawNetlist, times, driving, AreMarked}
use Rattle.cycle_sim.proofs.Placed.{placed-more, times_at-at}
use Rattle.cycle_sim.proofs.Plans.{driving-narrow, driven-below}
use Rattle.cycle_sim.proofs.places.places_of.Goals as goal

driver-is : (raw read : RawNetlist) (bits : List Bit) (d : ℕ) → read ≡ raw → bits ≡ get_or (driving read) d [] → bits ≡ get_or (driving raw) d []
driver-is raw read bits d same is = is ∙ ap (λ (r : RawNetlist). get_or (driving r) d []) same

pub mark-requires-clause-below : goal.mark-requires-clause-below
mark-requires-clause-below c = λ n some.
    let plan = c.args.netlist.now in
    let d : ℕ = c.loop-driver.driver in
    let is = driver-is plan.raw c.raw-raw.result.now c.driver_bits.result.now d c.raw-raw.ensures.value c.driver_bits.ensures in
    let inside : d < length (driving plan.raw) = omega (arith, c.loop-driver-test.true, c.driver_count-driver-end.ensures.count) in
    let here : 1 ≤ times n (get_or (driving plan.raw) d []) = subst (λ (b : List Bit). 1 ≤ times n b) is some in
    let all = times_at-at n (driving plan.raw) d [] inside in
    let below = driven-below plan c.raw-raw.ensures.sound n (omega (arith, here, all)) in
    omega (arith, below, c.loop-driver.invariant.0)

pub mark-requires-clause-narrow : goal.mark-requires-clause-narrow
mark-requires-clause-narrow c =
    let plan = c.args.netlist.now in
    let d : ℕ = c.loop-driver.driver in
    let is = driver-is plan.raw c.raw-raw.result.now c.driver_bits.result.now d c.raw-raw.ensures.value c.driver_bits.ensures in
    let inside : d < length (driving plan.raw) = omega (arith, c.loop-driver-test.true, c.driver_count-driver-end.ensures.count) in
    subst (λ (b : List Bit). length b ≤ 128) (sym is) (driving-narrow plan c.raw-raw.ensures.sound d [] inside)

pub loop-driver-preserved : goal.loop-driver-preserved
loop-driver-preserved c =
    let plan = c.args.netlist.now in
    let d : ℕ = c.loop-driver.driver in
    let is = driver-is plan.raw c.raw-raw.result.now c.driver_bits.result.now d c.raw-raw.ensures.value c.driver_bits.ensures in
    let inside : d < length (driving plan.raw) = omega (arith, c.loop-driver-test.true, c.driver_count-driver-end.ensures.count) in (
      c.mark.ensures.long ∙ c.loop-driver.invariant.0,
      placed-more (driving plan.raw) d c.loop-driver.places.items c.mark.new.places.items c.loop-driver.invariant.1 inside (subst (λ (b : List Bit). AreMarked d b b c.loop-driver.places.items c.mark.new.places.items) is c.mark.ensures.marked),
    )
