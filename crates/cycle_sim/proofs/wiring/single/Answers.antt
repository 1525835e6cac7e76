use Rattle.cycle_sim.proofs.Common.{◌≡◌, ℕ, ◌<◌, List, [], map, length, take, drop, get_or, sym, ◌∙◌, ap, arith, length-map, get_or-map, take_all, Bit, Place, Source, Driver, Part, source_bits}
use Rattle.cycle_sim.proofs.Common.{part_bits}
use Rattle.cycle_sim.proofs.wiring.single.Goals as goal

-- a part that begins with a driver's first bit and is as wide as it is the driver
whole-driver : (drivers : List (List Bit)) (widths : List ℕ) (part : Part) (place : Place) → part.first ≡ Driver place → place.bit ≡ 0 → place.driver < length widths → get_or widths place.driver 0 ≡ part.width → map length drivers ≡ widths → get_or drivers place.driver [] ≡ part_bits drivers part
whole-driver drivers widths part place is first inside wide are =
    let bits : List Bit = get_or drivers place.driver [] in
    let long : length drivers ≡ length widths = sym (length-map drivers (λ (b : List Bit). length b)) ∙ ap (λ (l : List ℕ). length l) are in
    let within : place.driver < length drivers = omega (arith, inside, long) in
    let width : length bits ≡ part.width = sym (get_or-map (λ (b : List Bit). length b) drivers place.driver [] 0 within) ∙ ap (λ (l : List ℕ). get_or l place.driver 0) are ∙ wide in
    let cut : part_bits drivers part ≡ take part.width (drop place.bit bits) = ap (λ (s : Source). source_bits drivers s part.width) is in
    sym (cut ∙ ap (λ (k : ℕ). take part.width (drop k bits)) first ∙ take_all part.width bits (omega (arith, width)))

pub returns-then-widths-driver : goal.returns-then-widths-driver
returns-then-widths-driver c = λ drivers are. whole-driver drivers c.args.widths.now c.args.part c.in-Driver.place c.in-Driver.is c.if-place-eq0.true c.if-driver-widths.true c.if-widths-driver.true are
