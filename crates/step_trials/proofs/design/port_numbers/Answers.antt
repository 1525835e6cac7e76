use Rattle.step_trials.proofs.CellPorts.{wide-bits}
use Rattle.step_trials.proofs.design.port_numbers.Goals as goal

pub number_of-requires : goal.number_of-requires
number_of-requires c = rw (c.as_slice.ensures, c.port-item.is) (wide-bits c.args.ports.now c.loop-port.port-index c.port-item.result c.requires c.loop-port-test.true).1
