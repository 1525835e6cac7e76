use Rattle.netlist_gates.proofs.Common.{ℕ, ◌<◌, List, length, get_or, ap, subst, ◌∙◌, arith, lits_of, ordered, cells-of, cell-read, cell-wide, output-below}
use Rattle.netlist_gates.proofs.Ordered.{cells-step, cells-many, same_err}
use Rattle.netlist_gates.proofs.cells.add_cells.Goals as goal

pub bounds-cells-number : goal.bounds-cells-number
bounds-cells-number c =
    let plan = c.args.netlist.now in
    let cells = cells-of plan.raw c.raw.result.now c.as_slice-cells.result.now c.raw.ensures.value c.as_slice-cells.ensures in
    let here = ordered plan c.order-order.ensures.sound c.order-order.result.now c.loop-i.i c.order-order.ensures.value c.loop-i-test.true in
    omega (arith, here.0, ap length cells)

pub add_cell-requires-clause-shape : goal.add_cell-requires-clause-shape
add_cell-requires-clause-shape c =
    let plan = c.args.netlist.now in
    let n : ℕ = get_or c.order-order.result.now c.loop-i.i 0 in
    let cells = cells-of plan.raw c.raw.result.now c.as_slice-cells.result.now c.raw.ensures.value c.as_slice-cells.ensures in
    let here = ordered plan c.order-order.ensures.sound c.order-order.result.now c.loop-i.i c.order-order.ensures.value c.loop-i-test.true in
    c.order-order.ensures.sound.connected.driven.shaped.shapes n c.index-cells-number.result (cell-read plan.raw.cells c.as_slice-cells.result.now n c.index-cells-number.result cells here.0 c.index-cells-number.is)

pub add_cell-requires-clause-wide : goal.add_cell-requires-clause-wide
add_cell-requires-clause-wide c =
    let plan = c.args.netlist.now in
    let n : ℕ = get_or c.order-order.result.now c.loop-i.i 0 in
    let cells = cells-of plan.raw c.raw.result.now c.as_slice-cells.result.now c.raw.ensures.value c.as_slice-cells.ensures in
    let here = ordered plan c.order-order.ensures.sound c.order-order.result.now c.loop-i.i c.order-order.ensures.value c.loop-i-test.true in
    cell-wide plan c.order-order.ensures.sound n c.index-cells-number.result (cell-read plan.raw.cells c.as_slice-cells.result.now n c.index-cells-number.result cells here.0 c.index-cells-number.is)

pub add_cell-requires-clause-below : goal.add_cell-requires-clause-below
add_cell-requires-clause-below c =
    let plan = c.args.netlist.now in
    let n : ℕ = get_or c.order-order.result.now c.loop-i.i 0 in
    let cells = cells-of plan.raw c.raw.result.now c.as_slice-cells.result.now c.raw.ensures.value c.as_slice-cells.ensures in
    let here = ordered plan c.order-order.ensures.sound c.order-order.result.now c.loop-i.i c.order-order.ensures.value c.loop-i-test.true in
    let found = cell-read plan.raw.cells c.as_slice-cells.result.now n c.index-cells-number.result cells here.0 c.index-cells-number.is in
    rw (c.loop-i.invariant.long, c.requires.long) (output-below plan c.order-order.ensures.sound n c.index-cells-number.result found)

pub loop-i-preserved : goal.loop-i-preserved
loop-i-preserved c =
    let plan = c.args.netlist.now in
    let i : ℕ = c.loop-i.i in
    let n : ℕ = get_or c.order-order.result.now i 0 in
    let cell = c.index-cells-number.result in
    let cells = cells-of plan.raw c.raw.result.now c.as_slice-cells.result.now c.raw.ensures.value c.as_slice-cells.ensures in
    let here = ordered plan c.order-order.ensures.sound c.order-order.result.now i c.order-order.ensures.value c.loop-i-test.true in
    let found = cell-read plan.raw.cells c.as_slice-cells.result.now n cell cells here.0 c.index-cells-number.is in
    let inside : i < length plan.order = subst (λ (list : List ℕ). i < length list) c.order-order.ensures.value c.loop-i-test.true in
    record {
      made = cells-step plan.raw.cells plan.order i n cell (record { gates = c.loop-i.gates; lits = lits_of c.loop-i.table.items }) (record { gates = c.add_cell.new.gates; lits = lits_of c.add_cell.new.table.items }) _ inside here.1 found c.in_ok-add_cell.ensures.made c.loop-i.invariant.made;
      within = c.in_ok-add_cell.ensures.within;
      long = c.add_cell.ensures.long ∙ c.loop-i.invariant.long;
      few = c.in_ok-add_cell.ensures.limit;
    }

pub returns-in_err-add_cell-clause-too_many : goal.returns-in_err-add_cell-clause-too_many
returns-in_err-add_cell-clause-too_many c =
    let plan = c.args.netlist.now in
    let i : ℕ = c.loop-i.i in
    let n : ℕ = get_or c.order-order.result.now i 0 in
    let cell = c.index-cells-number.result in
    let cells = cells-of plan.raw c.raw.result.now c.as_slice-cells.result.now c.raw.ensures.value c.as_slice-cells.ensures in
    let here = ordered plan c.order-order.ensures.sound c.order-order.result.now i c.order-order.ensures.value c.loop-i-test.true in
    let found = cell-read plan.raw.cells c.as_slice-cells.result.now n cell cells here.0 c.index-cells-number.is in
    let inside : i < length plan.order = subst (λ (list : List ℕ). i < length list) c.order-order.ensures.value c.loop-i-test.true in
    same_err c.from_residual.result c.in_err-add_cell.field-0.0 _ c.from_residual.ensures.1
    (λ is. cells-many plan c.order-order.ensures.sound i n 200000 cell (record { gates = c.loop-i.gates; lits = lits_of c.loop-i.table.items }) _ inside here.1 found c.loop-i.invariant.within c.loop-i.invariant.made (c.in_err-add_cell.ensures.too_many is))
