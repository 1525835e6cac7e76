use Rattle.cycle_sim.proofs.Common.{arith}
use Rattle.cycle_sim.proofs.Plans.{driving-few, driving-length}
use Rattle.cycle_sim.proofs.places.driver_count.Goals as goal

pub returns-clause-small : goal.returns-clause-small
returns-clause-small c =
    let plan = c.args.netlist.now in
    rw (c.as_slice.ensures, c.as_slice-2.ensures, c.as_slice-3.ensures, c.raw-raw.ensures.value) (let few = driving-few plan c.raw-raw.ensures.sound in let long = driving-length plan.raw in omega (arith, few, long))
