use Rattle.cycle_sim.proofs.Common.{◌≡◌, ℕ, ◌<◌, ◌≤◌, List, [], length, replicate, get_or, slice_get, Option, Some, sym, ◌∙◌, ap, subst, arith, Bit, Cell, RawNetlist, input_ports, times_at, ports_of}
use Rattle.cycle_sim.proofs.Common.{Plan, IsSound, driving, place_of, cell-read}
use Rattle.cycle_sim.proofs.Current.{cell-inside}
use Rattle.cycle_sim.proofs.Plans.{read-driven}
use Rattle.cycle_sim.proofs.Reading.{read-below}
use Rattle.cycle_sim.proofs.ReaderLists.{AreUpTo, ins_at, ins-read, driver-inside, upto-none, upto-more, readers-are}
use Rattle.cycle_sim.proofs.readers.readers_of.Goals as goal

-- the input ports of the cell that was read are those at the place
ins-are : (plan : Plan) (read : RawNetlist) (cells : List Cell) (order : List ℕ) (k : ℕ) (cell : Cell) (ports ins : List (List Bit)) → read ≡ plan.raw → cells ≡ read.cells → order ≡ plan.order → get_or order k 0 < length plan.raw.cells → cell ≡ get_or cells (get_or order k 0) cell → ports ≡ cell.ports → ins ≡ input_ports ports → ins ≡ ins_at plan k
ins-are plan read cells order k cell ports ins raw_is cells_are order_is inside is ports_are ins_are =
    let all : cells ≡ plan.raw.cells = cells_are ∙ ap (λ (r : RawNetlist). r.cells) raw_is in
    let found : slice_get plan.raw.cells (get_or order k 0) ≡ Some cell = cell-read plan.raw.cells cells (get_or order k 0) cell all inside is in
    ins_are ∙ ap input_ports ports_are ∙ ap (λ (o : Option Cell). input_ports (ports_of o)) (sym found) ∙ ap (λ (l : List ℕ). input_ports (ports_of (slice_get plan.raw.cells (get_or l k 0)))) order_is

cell-below : (plan : Plan) → IsSound plan → (order : List ℕ) (k : ℕ) → order ≡ plan.order → k < length order → get_or order k 0 < length plan.raw.cells
cell-below plan sound order k same inside = subst (λ (l : List ℕ). get_or l k 0 < length plan.raw.cells) (sym same) (cell-inside plan sound k (subst (λ (l : List ℕ). k < length l) same inside))

pub loop-place-init : goal.loop-place-init
loop-place-init c = upto-none c.args.netlist.now c.args.places.now c.in_ok-readers.readers.items (c.in_ok-readers.ensures ∙ ap (λ (k : ℕ). replicate k []) c.driver_count.ensures.count)

pub bounds-cells-order : goal.bounds-cells-order
bounds-cells-order c =
    let plan = c.args.netlist.now in
    let below = cell-below plan c.raw.ensures.sound c.order-order.result.now c.loop-place.place c.order-order.ensures.value c.loop-place-test.true in
    let all = ap (λ (l : List Cell). length l) (c.as_slice-cells.ensures ∙ ap (λ (r : RawNetlist). r.cells) c.raw.ensures.value) in
    omega (arith, below, all)

pub add_ports-requires-clause-below : goal.add_ports-requires-clause-below
add_ports-requires-clause-below c = λ n some.
    let plan = c.args.netlist.now in
    let k : ℕ = c.loop-place.place in
    let ins = ins-are plan c.raw.result.now c.as_slice-cells.result.now c.order-order.result.now k c.index-cells-order.result c.as_slice.result.now c.input_ports.result.now c.raw.ensures.value c.as_slice-cells.ensures c.order-order.ensures.value (cell-below plan c.raw.ensures.sound c.order-order.result.now k c.order-order.ensures.value c.loop-place-test.true) c.index-cells-order.is c.as_slice.ensures c.input_ports.ensures in
    let below = read-below plan c.raw.ensures.sound n (ins-read plan k n (subst (λ (p : List (List Bit)). 1 ≤ times_at n p) ins some)) in
    omega (arith, below, c.requires.long)

pub add_ports-requires-clause-inside : goal.add_ports-requires-clause-inside
add_ports-requires-clause-inside c = λ n some.
    let plan = c.args.netlist.now in
    let k : ℕ = c.loop-place.place in
    let ins = ins-are plan c.raw.result.now c.as_slice-cells.result.now c.order-order.result.now k c.index-cells-order.result c.as_slice.result.now c.input_ports.result.now c.raw.ensures.value c.as_slice-cells.ensures c.order-order.ensures.value (cell-below plan c.raw.ensures.sound c.order-order.result.now k c.order-order.ensures.value c.loop-place-test.true) c.index-cells-order.is c.as_slice.ensures c.input_ports.ensures in
    let driven = read-driven plan c.raw.ensures.sound n (ins-read plan k n (subst (λ (p : List (List Bit)). 1 ≤ times_at n p) ins some)) in
    let inside = driver-inside (driving plan.raw) (place_of c.args.places.now n) n (c.requires.placed n driven) in
    let long = c.loop-place.invariant.long in
    omega (arith, inside, long)

pub loop-place-preserved : goal.loop-place-preserved
loop-place-preserved c =
    let plan = c.args.netlist.now in
    let k : ℕ = c.loop-place.place in
    let ins = ins-are plan c.raw.result.now c.as_slice-cells.result.now c.order-order.result.now k c.index-cells-order.result c.as_slice.result.now c.input_ports.result.now c.raw.ensures.value c.as_slice-cells.ensures c.order-order.ensures.value (cell-below plan c.raw.ensures.sound c.order-order.result.now k c.order-order.ensures.value c.loop-place-test.true) c.index-cells-order.is c.as_slice.ensures c.input_ports.ensures in
    upto-more plan c.args.places.now k c.loop-place.readers.items c.add_ports.new.readers.items c.input_ports.result.now c.loop-place.invariant ins c.in_ok-add_ports.ensures

pub returns : goal.returns
returns c =
    let plan = c.args.netlist.now in
    let count = ap (λ (l : List ℕ). length l) c.order-order.ensures.value in
    let all : c.loop-place.place ≡ length plan.order = omega (arith, c.loop-place-test.false, c.loop-place.auto.place-end, count) in
    readers-are plan c.raw.ensures.sound c.args.places.now c.loop-place.readers.items c.requires.placed (subst (λ (k : ℕ). AreUpTo plan c.args.places.now k c.loop-place.readers.items) all c.loop-place.invariant) (λ n j inside some. read-driven plan c.raw.ensures.sound n (ins-read plan j n some))
