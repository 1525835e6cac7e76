use Rattle.cycle_sim.proofs.Common.{◌∙◌}
use Rattle.cycle_sim.proofs.PartNumbers.{masked}
use Rattle.cycle_sim.proofs.computing.compute.Goals as goal

pub returns : goal.returns
returns c = masked c.whole_number.result c.args.gate.now.width c.requires.narrow ∙ c.whole_number.ensures
