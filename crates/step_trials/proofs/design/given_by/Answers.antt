use Rattle.step_trials.proofs.CellPorts.{wide-next}
use Rattle.step_trials.proofs.design.given_by.Goals as goal

pub number_of-requires : goal.number_of-requires
number_of-requires c = rw (c.as_slice.ensures, c.register-item.is) (wide-next c.args.registers.now c.loop-register.register-index c.register-item.result c.requires.next c.loop-register-test.true).1
