use Rattle.process_cells.proofs.Bodies.{can_be_built}
use Rattle.process_cells.proofs.laws.accepted_bodies_can_be_built.Goals as goal

pub returns : goal.returns
returns c = can_be_built
