use Rattle.step_trials.proofs.Common.{◌≡◌, ◌<◌, ◌+◌, ℕ, List, ◌∷◌, drop, get_or, length, slice_get, Some, Option, ap, sym, subst, ◌∙◌, arith, drop_more, Cell, Nets, plain, after_cell, after_order}
use Rattle.step_trials.proofs.Common.{nets_of, ordered, cells-of, cell-read, cell-wide, output-below}
use Rattle.step_trials.proofs.settle.settle.Goals as goal

pub bounds-cells-number : goal.bounds-cells-number
bounds-cells-number c =
    let plan = c.args.netlist.now in
    let cells : c.as_slice-cells.result.now ≡ plan.raw.cells = cells-of plan.raw c.raw.result.now c.as_slice-cells.result.now c.raw.ensures.value c.as_slice-cells.ensures in
    let here = ordered plan c.order-order.ensures.sound c.order-order.result.now c.loop-i.i c.order-order.ensures.value c.loop-i-test.true in
    omega (arith, here.0, ap length cells)

pub advance-requires : goal.advance-requires
advance-requires c =
    let plan = c.args.netlist.now in
    let n : ℕ = get_or c.order-order.result.now c.loop-i.i 0 in
    let cells : c.as_slice-cells.result.now ≡ plan.raw.cells = cells-of plan.raw c.raw.result.now c.as_slice-cells.result.now c.raw.ensures.value c.as_slice-cells.ensures in
    let here = ordered plan c.order-order.ensures.sound c.order-order.result.now c.loop-i.i c.order-order.ensures.value c.loop-i-test.true in
    let is : slice_get plan.raw.cells n ≡ Some c.index-cells-number.result = cell-read plan.raw.cells c.as_slice-cells.result.now n c.index-cells-number.result cells here.0 c.index-cells-number.is in
    record {
      shape = c.order-order.ensures.sound.connected.driven.shaped.shapes n c.index-cells-number.result is;
      wide = cell-wide plan c.order-order.ensures.sound n c.index-cells-number.result is;
      below = rw (c.loop-i.auto.table, c.requires) (output-below plan c.order-order.ensures.sound n c.index-cells-number.result is);
    }

pub loop-i-preserved : goal.loop-i-preserved
loop-i-preserved c =
    let plan = c.args.netlist.now in
    let nets : Nets = nets_of c.loop-i.table in
    let rest : List ℕ = drop (c.loop-i.i + 1) plan.order in
    let n : ℕ = get_or c.order-order.result.now c.loop-i.i 0 in
    let cells : c.as_slice-cells.result.now ≡ plan.raw.cells = cells-of plan.raw c.raw.result.now c.as_slice-cells.result.now c.raw.ensures.value c.as_slice-cells.ensures in
    let here = ordered plan c.order-order.ensures.sound c.order-order.result.now c.loop-i.i c.order-order.ensures.value c.loop-i-test.true in
    let is : slice_get plan.raw.cells n ≡ Some c.index-cells-number.result = cell-read plan.raw.cells c.as_slice-cells.result.now n c.index-cells-number.result cells here.0 c.index-cells-number.is in
    let within : c.loop-i.i < length plan.order = subst (λ (list : List ℕ). c.loop-i.i < length list) c.order-order.ensures.value c.loop-i-test.true in
    let cut : drop c.loop-i.i plan.order ≡ n ∷ rest = drop_more plan.order c.loop-i.i 0 within ∙ ap (λ (k : ℕ). k ∷ rest) here.1 in
    ap (after_order plain plan.raw.cells rest) (c.advance.ensures n)
    ∙ ap (λ (o : Option Cell). after_order plain plan.raw.cells rest (after_cell plain n o nets)) (sym is)
    ∙ sym (ap (λ (list : List ℕ). after_order plain plan.raw.cells list nets) cut)
    ∙ c.loop-i.invariant
