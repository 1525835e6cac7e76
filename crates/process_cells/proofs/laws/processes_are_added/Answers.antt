use Rattle.process_cells.proofs.Adding.{combinational_added, clocked_added}
use Rattle.process_cells.proofs.laws.processes_are_added.Goals as goal

pub returns-clause-combinational : goal.returns-clause-combinational
returns-clause-combinational c = combinational_added

pub returns-clause-clocked : goal.returns-clause-clocked
returns-clause-clocked c = clocked_added
