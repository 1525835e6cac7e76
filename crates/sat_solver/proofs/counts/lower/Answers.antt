use Rattle.sat_solver.proofs.Common.{◌≡◌, ◌<◌, ◌≤◌, ◌∙◌, length, get_or, sym, arith, get_or_default}
use Rattle.sat_solver.proofs.Listed.{lowered-fits, stands-within}
use Rattle.sat_solver.proofs.counts.lower.Goals as goal

pub index_mut-requires : goal.index_mut-requires
index_mut-requires c =
    let one : 1 ≤ get_or c.loop-number.table.items (get_or c.args.list.now c.loop-number.number-index 0) 0 = lowered-fits c.args.table.now.items c.loop-number.table.items c.args.list.now c.loop-number.number-index c.loop-number-test.true (c.loop-number.invariant.1 (get_or c.args.list.now c.loop-number.number-index 0)) (c.requires (get_or c.args.list.now c.loop-number.number-index 0)) in
    omega (arith, stands-within c.loop-number.table.items (get_or c.args.list.now c.loop-number.number-index 0) one, c.loop-number.table.ok.0)

pub overflow_sub-index_mut : goal.overflow_sub-index_mut
overflow_sub-index_mut c =
    let one : 1 ≤ get_or c.loop-number.table.items (get_or c.args.list.now c.loop-number.number-index 0) 0 = lowered-fits c.args.table.now.items c.loop-number.table.items c.args.list.now c.loop-number.number-index c.loop-number-test.true (c.loop-number.invariant.1 (get_or c.args.list.now c.loop-number.number-index 0)) (c.requires (get_or c.args.list.now c.loop-number.number-index 0)) in
    let within : get_or c.args.list.now c.loop-number.number-index 0 < length c.loop-number.table.items = stands-within c.loop-number.table.items (get_or c.args.list.now c.loop-number.number-index 0) one in
    let value : c.index_mut.result.now ≡ get_or c.loop-number.table.items (get_or c.args.list.now c.loop-number.number-index 0) 0 = c.index_mut.ensures.value ∙ sym (get_or_default c.loop-number.table.items (get_or c.args.list.now c.loop-number.number-index 0) 0 c.index_mut.result.now within) in
    omega (arith, one, value)
