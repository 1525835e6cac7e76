use Rattle.cycle_sim.proofs.Common.{◌≡◌, ℕ, ◌+◌, ◌*◌, ◌%◌, ◌^◌, ◌<◌, List, length, get_or, slice_get, Some, sym, ◌∙◌, ap, subst, arith, Cell, RawNetlist, plain, output_port, number_at, Plan, IsSound}
use Rattle.cycle_sim.proofs.Common.{FitPorts, driving, Gate, IsGateOf, AllGates, gate_number, nets_of}
use Rattle.cycle_sim.proofs.Computed.{place, place-inside, gates-length, gates-at}
use Rattle.cycle_sim.proofs.Gates.{gate-computable, gate-computes}
use Rattle.cycle_sim.proofs.Plans.{fit-length}
use Rattle.cycle_sim.proofs.Current.{IsSettled, cell-inside, readers-room, cell-settled}
use Rattle.cycle_sim.proofs.cycle.settle_cell.Goals as goal

first-is : (raw read : RawNetlist) (a b k : ℕ) → read ≡ raw → a ≡ length read.inputs → b ≡ length read.registers → a + b + k ≡ place raw k
first-is raw read a b k same is_a is_b =
    let x : length read.inputs ≡ length raw.inputs = ap (λ (r : RawNetlist). length r.inputs) same in
    let y : length read.registers ≡ length raw.registers = ap (λ (r : RawNetlist). length r.registers) same in
    omega (arith, is_a, is_b, x, y)

cell-below : (plan : Plan) → IsSound plan → (read : List ℕ) (p : ℕ) → read ≡ plan.order → p < length plan.order → get_or read p 0 < length plan.raw.cells
cell-below plan sound read p same inside = subst (λ (l : List ℕ). get_or l p 0 < length plan.raw.cells) (sym same) (cell-inside plan sound p inside)

gate-there : (plan : Plan) (gates : List Gate) (n : ℕ) (gate : Gate) → AllGates (driving plan.raw) gates plan.raw.cells → n < length plan.raw.cells → gate ≡ get_or gates n gate → IsGateOf (driving plan.raw) gate (slice_get plan.raw.cells n)
gate-there plan gates n gate are inside is = subst (λ (g : Gate). IsGateOf (driving plan.raw) g (slice_get plan.raw.cells n)) (sym is) (gates-at (driving plan.raw) gates plan.raw.cells n gate are inside)

computes : (plan : Plan) → IsSound plan → (gates : List Gate) (read table : List ℕ) (n : ℕ) (gate : Gate) (v : ℕ) → read ≡ table → FitPorts (driving plan.raw) table → AllGates (driving plan.raw) gates plan.raw.cells → n < length plan.raw.cells → gate ≡ get_or gates n gate → v ≡ gate_number read gate → (cell : Cell) → slice_get plan.raw.cells n ≡ Some cell → v ≡ number_at (plain (nets_of plan.raw read)) n cell % 2 ^ length (output_port cell.ports)
computes plan sound gates read table n gate v same fit are inside is value = gate-computes plan sound read (subst (FitPorts (driving plan.raw)) (sym same) fit) n gate v (gate-there plan gates n gate are inside is) value

pub bounds-gates-cell : goal.bounds-gates-cell
bounds-gates-cell c =
    let plan = c.args.netlist.now in
    let inside = cell-below plan c.raw-raw.ensures.sound c.order.result.now c.args.place c.order.ensures.value c.requires.inside in
    let long = gates-length (driving plan.raw) c.args.gates.now plan.raw.cells c.requires.gates in
    omega (arith, inside, long)

pub compute-number-requires : goal.compute-number-requires
compute-number-requires c =
    let plan = c.args.netlist.now in
    let n : ℕ = get_or c.order.result.now c.args.place 0 in
    let inside = cell-below plan c.raw-raw.ensures.sound c.order.result.now c.args.place c.order.ensures.value c.requires.inside in
    let gate = gate-there plan c.args.gates.now n c.index-gates-cell.result c.requires.gates inside c.index-gates-cell.is in
    gate-computable plan c.raw-raw.ensures.sound c.as_slice-3.result.now (subst (FitPorts (driving plan.raw)) (sym c.as_slice-3.ensures.value) c.requires.held.fit) n c.index-gates-cell.result inside gate

pub unmark-requires : goal.unmark-requires
unmark-requires c = (let room = c.requires.held.current.room in let inside = c.requires.inside in omega (arith, room, inside))

pub put-requires-clause-inside : goal.put-requires-clause-inside
put-requires-clause-inside c =
    let plan = c.args.netlist.now in
    let n : ℕ = get_or c.order.result.now c.args.place 0 in
    let inside = cell-below plan c.raw-raw.ensures.sound c.order.result.now c.args.place c.order.ensures.value c.requires.inside in
    let there = first-is plan.raw c.raw-raw.result.now (length c.as_slice.result.now) (length c.as_slice-2.result.now) n c.raw-raw.ensures.value (ap (λ l. length l) c.as_slice.ensures) (ap (λ l. length l) c.as_slice-2.ensures) in
    let within = place-inside plan c.args.table.now.items n c.requires.held.fit inside in
    omega (arith, there, within)

pub put-requires-clause-listed : goal.put-requires-clause-listed
put-requires-clause-listed c = c.requires.readers.long ∙ sym (fit-length (driving c.args.netlist.now.raw) c.args.table.now.items c.requires.held.fit)

pub put-requires-clause-room : goal.put-requires-clause-room
put-requires-clause-room c = readers-room c.args.netlist.now c.raw-raw.ensures.sound c.args.readers.now c.requires.readers (64 * length c.unmark.new.marks.items) (length c.as_slice.result.now + length c.as_slice-2.result.now + get_or c.order.result.now c.args.place 0) (let room = c.requires.held.current.room in let long = c.unmark.ensures.long in omega (arith, room, long))

pub returns-clause-held : goal.returns-clause-held
returns-clause-held c =
    let plan = c.args.netlist.now in
    let n : ℕ = get_or c.order.result.now c.args.place 0 in
    let settled : IsSettled plan c.raw-raw.ensures.sound c.args.place c.args.table.now.items c.args.marks.now.items c.put.new.table.items c.put.new.marks.items = cell-settled plan c.raw-raw.ensures.sound c.args.readers.now c.requires.readers c.args.table.now.items c.args.marks.now.items c.unmark.new.marks.items c.put.new.table.items c.put.new.marks.items c.as_slice-3.result.now c.args.place n (length c.as_slice.result.now + length c.as_slice-2.result.now + n) c.compute-number.result c.requires.held c.requires.inside (ap (λ (l : List ℕ). get_or l c.args.place 0) c.order.ensures.value) (first-is plan.raw c.raw-raw.result.now (length c.as_slice.result.now) (length c.as_slice-2.result.now) n c.raw-raw.ensures.value (ap (λ l. length l) c.as_slice.ensures) (ap (λ l. length l) c.as_slice-2.ensures)) c.as_slice-3.ensures.value (computes c.args.netlist.now c.raw-raw.ensures.sound c.args.gates.now c.as_slice-3.result.now c.args.table.now.items n c.index-gates-cell.result c.compute-number.result c.as_slice-3.ensures.value c.requires.held.fit c.requires.gates (cell-below c.args.netlist.now c.raw-raw.ensures.sound c.order.result.now c.args.place c.order.ensures.value c.requires.inside) c.index-gates-cell.is c.compute-number.ensures) c.unmark.ensures.long c.unmark.ensures.here c.unmark.ensures.others c.put.ensures in
    settled.held

pub returns-clause-front : goal.returns-clause-front
returns-clause-front c =
    let plan = c.args.netlist.now in
    let n : ℕ = get_or c.order.result.now c.args.place 0 in
    let settled : IsSettled plan c.raw-raw.ensures.sound c.args.place c.args.table.now.items c.args.marks.now.items c.put.new.table.items c.put.new.marks.items = cell-settled plan c.raw-raw.ensures.sound c.args.readers.now c.requires.readers c.args.table.now.items c.args.marks.now.items c.unmark.new.marks.items c.put.new.table.items c.put.new.marks.items c.as_slice-3.result.now c.args.place n (length c.as_slice.result.now + length c.as_slice-2.result.now + n) c.compute-number.result c.requires.held c.requires.inside (ap (λ (l : List ℕ). get_or l c.args.place 0) c.order.ensures.value) (first-is plan.raw c.raw-raw.result.now (length c.as_slice.result.now) (length c.as_slice-2.result.now) n c.raw-raw.ensures.value (ap (λ l. length l) c.as_slice.ensures) (ap (λ l. length l) c.as_slice-2.ensures)) c.as_slice-3.ensures.value (computes c.args.netlist.now c.raw-raw.ensures.sound c.args.gates.now c.as_slice-3.result.now c.args.table.now.items n c.index-gates-cell.result c.compute-number.result c.as_slice-3.ensures.value c.requires.held.fit c.requires.gates (cell-below c.args.netlist.now c.raw-raw.ensures.sound c.order.result.now c.args.place c.order.ensures.value c.requires.inside) c.index-gates-cell.is c.compute-number.ensures) c.unmark.ensures.long c.unmark.ensures.here c.unmark.ensures.others c.put.ensures in
    settled.same

pub returns-clause-here : goal.returns-clause-here
returns-clause-here c =
    let plan = c.args.netlist.now in
    let n : ℕ = get_or c.order.result.now c.args.place 0 in
    let settled : IsSettled plan c.raw-raw.ensures.sound c.args.place c.args.table.now.items c.args.marks.now.items c.put.new.table.items c.put.new.marks.items = cell-settled plan c.raw-raw.ensures.sound c.args.readers.now c.requires.readers c.args.table.now.items c.args.marks.now.items c.unmark.new.marks.items c.put.new.table.items c.put.new.marks.items c.as_slice-3.result.now c.args.place n (length c.as_slice.result.now + length c.as_slice-2.result.now + n) c.compute-number.result c.requires.held c.requires.inside (ap (λ (l : List ℕ). get_or l c.args.place 0) c.order.ensures.value) (first-is plan.raw c.raw-raw.result.now (length c.as_slice.result.now) (length c.as_slice-2.result.now) n c.raw-raw.ensures.value (ap (λ l. length l) c.as_slice.ensures) (ap (λ l. length l) c.as_slice-2.ensures)) c.as_slice-3.ensures.value (computes c.args.netlist.now c.raw-raw.ensures.sound c.args.gates.now c.as_slice-3.result.now c.args.table.now.items n c.index-gates-cell.result c.compute-number.result c.as_slice-3.ensures.value c.requires.held.fit c.requires.gates (cell-below c.args.netlist.now c.raw-raw.ensures.sound c.order.result.now c.args.place c.order.ensures.value c.requires.inside) c.index-gates-cell.is c.compute-number.ensures) c.unmark.ensures.long c.unmark.ensures.here c.unmark.ensures.others c.put.ensures in
    settled.here

pub returns-clause-before : goal.returns-clause-before
returns-clause-before c =
    let plan = c.args.netlist.now in
    let n : ℕ = get_or c.order.result.now c.args.place 0 in
    let settled : IsSettled plan c.raw-raw.ensures.sound c.args.place c.args.table.now.items c.args.marks.now.items c.put.new.table.items c.put.new.marks.items = cell-settled plan c.raw-raw.ensures.sound c.args.readers.now c.requires.readers c.args.table.now.items c.args.marks.now.items c.unmark.new.marks.items c.put.new.table.items c.put.new.marks.items c.as_slice-3.result.now c.args.place n (length c.as_slice.result.now + length c.as_slice-2.result.now + n) c.compute-number.result c.requires.held c.requires.inside (ap (λ (l : List ℕ). get_or l c.args.place 0) c.order.ensures.value) (first-is plan.raw c.raw-raw.result.now (length c.as_slice.result.now) (length c.as_slice-2.result.now) n c.raw-raw.ensures.value (ap (λ l. length l) c.as_slice.ensures) (ap (λ l. length l) c.as_slice-2.ensures)) c.as_slice-3.ensures.value (computes c.args.netlist.now c.raw-raw.ensures.sound c.args.gates.now c.as_slice-3.result.now c.args.table.now.items n c.index-gates-cell.result c.compute-number.result c.as_slice-3.ensures.value c.requires.held.fit c.requires.gates (cell-below c.args.netlist.now c.raw-raw.ensures.sound c.order.result.now c.args.place c.order.ensures.value c.requires.inside) c.index-gates-cell.is c.compute-number.ensures) c.unmark.ensures.long c.unmark.ensures.here c.unmark.ensures.others c.put.ensures in
    settled.before
