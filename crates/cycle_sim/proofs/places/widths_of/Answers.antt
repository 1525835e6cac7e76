use Rattle.cycle_sim.proofs.Common.{◌≡◌, ℕ, ◌+◌, ◌<◌, List, [], ◌∷◌, ◌++◌, map, length, take, get_or, sym, ◌∙◌, ap, arith, map-append, take_more, take_all, Bit, RawNetlist, driving}
use Rattle.cycle_sim.proofs.Plans.{driving-narrow}
use Rattle.cycle_sim.proofs.places.widths_of.Goals as goal

driver-is : (raw read : RawNetlist) (bits : List Bit) (d : ℕ) → read ≡ raw → bits ≡ get_or (driving read) d [] → bits ≡ get_or (driving raw) d []
driver-is raw read bits d same is = is ∙ ap (λ (r : RawNetlist). get_or (driving r) d []) same

widths-more : (drivers : List (List Bit)) (d : ℕ) (old new : List ℕ) (bits : List Bit) → old ≡ map length (take d drivers) → new ≡ old ++ length bits ∷ [] → d < length drivers → bits ≡ get_or drivers d [] → new ≡ map length (take (d + 1) drivers)
widths-more drivers d old new bits was grown inside is =
    let more : take (d + 1) drivers ≡ take d drivers ++ bits ∷ [] = take_more drivers d [] inside ∙ ap (λ (b : List Bit). take d drivers ++ b ∷ []) (sym is) in
    grown ∙ ap (λ (l : List ℕ). l ++ length bits ∷ []) was ∙ sym (ap (map length) more ∙ map-append (λ (b : List Bit). length b) (take d drivers) (bits ∷ []))

pub overflow_cast-driver_bits : goal.overflow_cast-driver_bits
overflow_cast-driver_bits c =
    let plan = c.args.netlist.now in
    let d : ℕ = c.loop-driver.driver in
    let is = driver-is plan.raw c.raw-raw.result.now c.driver_bits.result.now d c.raw-raw.ensures.value c.driver_bits.ensures in
    let inside : d < length (driving plan.raw) = omega (arith, c.loop-driver-test.true, c.driver_count-driver-end.ensures.count) in
    let few = driving-narrow plan c.raw-raw.ensures.sound d [] inside in
    let long = ap (λ (b : List Bit). length b) is in
    omega (arith, few, long)

pub loop-driver-preserved : goal.loop-driver-preserved
loop-driver-preserved c =
    let plan = c.args.netlist.now in
    let d : ℕ = c.loop-driver.driver in
    let is = driver-is plan.raw c.raw-raw.result.now c.driver_bits.result.now d c.raw-raw.ensures.value c.driver_bits.ensures in
    let inside : d < length (driving plan.raw) = omega (arith, c.loop-driver-test.true, c.driver_count-driver-end.ensures.count) in
    widths-more (driving plan.raw) d c.loop-driver.widths.items c.push.new.self.items c.driver_bits.result.now c.loop-driver.invariant c.in_ok-push.ensures.items inside is

pub returns : goal.returns
returns c =
    let plan = c.args.netlist.now in
    let d : ℕ = c.loop-driver.driver in
    c.loop-driver.invariant ∙ ap (map length) (take_all d (driving plan.raw) (omega (arith, c.loop-driver-test.false, c.driver_count-driver-end.ensures.count)))
