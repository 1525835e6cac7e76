use Rattle.cycle_sim.proofs.Few.{full-current}
use Rattle.cycle_sim.proofs.state.all_marked.Goals as goal

pub returns : goal.returns
returns c = λ table. full-current c.args.netlist.now c.order.ensures.sound c.order.result.now c.in_ok-marks.marks.items c.order.ensures.value (c.in_ok-marks.ensures.items_if_clones_equal (λ y h. h)) table
