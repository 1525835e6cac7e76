use Rattle.elab_writers.proofs.Finishing.{can_finish}
use Rattle.elab_writers.proofs.Registers.{of_designs}
use Rattle.elab_writers.proofs.laws.designs_can_finish.Goals as goal

pub returns-clause-can : goal.returns-clause-can
returns-clause-can c = can_finish c.items_have_one_writer.ensures

pub returns-clause-design : goal.returns-clause-design
returns-clause-design c = of_designs
