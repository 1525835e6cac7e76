use Rattle.process_cells.proofs.Accepted.{accepted_ready}
use Rattle.process_cells.proofs.laws.accepted_statements_are_ready.Goals as goal

pub returns : goal.returns
returns c = accepted_ready
