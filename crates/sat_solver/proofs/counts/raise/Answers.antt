use Rattle.sat_solver.proofs.Common.{◌≡◌, ◌<◌, ◌∙◌, length, get_or, sym, arith, get_or_default}
use Rattle.sat_solver.proofs.Listed.{raised-fits}
use Rattle.sat_solver.proofs.counts.raise.Goals as goal

pub overflow_add-index_mut : goal.overflow_add-index_mut
overflow_add-index_mut c =
    let fits = raised-fits c.args.table.now.items c.loop-number.table.items c.args.list.now c.loop-number.number-index c.loop-number-test.true (c.loop-number.invariant.1 (get_or c.args.list.now c.loop-number.number-index 0)) (c.requires.room (get_or c.args.list.now c.loop-number.number-index 0)) in
    let within : get_or c.args.list.now c.loop-number.number-index 0 < length c.loop-number.table.items = omega (arith, c.requires.within c.loop-number.number-index 0 c.loop-number-test.true, c.loop-number.invariant.0) in
    let value : c.index_mut.result.now ≡ get_or c.loop-number.table.items (get_or c.args.list.now c.loop-number.number-index 0) 0 = c.index_mut.ensures.value ∙ sym (get_or_default c.loop-number.table.items (get_or c.args.list.now c.loop-number.number-index 0) 0 c.index_mut.result.now within) in
    omega (arith, fits, value)
