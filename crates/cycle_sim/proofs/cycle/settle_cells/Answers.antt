use Rattle.cycle_sim.proofs.Common.{ℕ, List, length, ap, arith}
use Rattle.cycle_sim.proofs.Current.{all-computed}
use Rattle.cycle_sim.proofs.cycle.settle_cells.Goals as goal

pub returns-clause-computed : goal.returns-clause-computed
returns-clause-computed c =
    let past = c.loop-place-test.false in
    let count = ap (λ (l : List ℕ). length l) c.order-count.ensures.value in
    all-computed c.args.netlist.now c.order-count.ensures.sound c.loop-place.table.items c.loop-place.marks.items c.loop-place.invariant.held.current (λ k inside. c.loop-place.invariant.before k (omega (arith, inside, past, count)))
